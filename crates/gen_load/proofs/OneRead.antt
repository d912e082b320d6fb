-- One read from a line and what comes after it.
use Rattle.std.proofs.Common.{◌≡◌, ℕ, ◌+◌, ◌-◌, ◌≤◌, List, [], ◌++◌, Some, Ok, drop, length, take, ap, append_assoc, arith, refl, sym, ◌∙◌}
use Rattle.std.proofs.lemmas.List.{drop-drop, length-drop, take-append-drop}
use Rattle.byte_lines.specs.Sources.{IsRead}

-- what is left of a line that is not read to its end
not_ended : (line : List ℕ) (offset : ℕ) → drop offset line ≡ [] → length line ≤ offset
not_ended line offset none =
    let same : length line - offset ≡ 0 = sym (length-drop offset line) ∙ ap (λ (l : List ℕ). length l) none in
    omega arith

-- the bytes left, where n of the line were given
pub read_is : (left given line rest into : List ℕ) (offset n : ℕ) → left ≡ drop offset line ++ rest → given ≡ drop offset line
    → n ≤ length into → take n into ≡ take n given → (n ≡ 0 → given ≡ []) → (length line ≤ offset → rest ≡ [])
    → IsRead (Some left) (Some (drop (offset + n) line ++ rest)) 0 0 into (Ok n)
read_is left given line rest into offset n was is fits same none end =
    let front : take n into ≡ take n (drop offset line) = same ∙ ap (λ (l : List ℕ). take n l) is in
    let later : drop (offset + n) line ≡ drop n (drop offset line) = sym (drop-drop n offset line) in
    record {
      fits = fits;
      gave = ap (λ (l : List ℕ). Some l) (
          was
          ∙ ap (λ (l : List ℕ). l ++ rest) (sym (take-append-drop n (drop offset line)))
          ∙ append_assoc (take n (drop offset line)) (drop n (drop offset line)) rest
          ∙ ap (λ (l : List ℕ). take n (drop offset line) ++ (l ++ rest)) (sym later)
          ∙ ap (λ (l : List ℕ). l ++ (drop (offset + n) line ++ rest)) (sym front));
      end = λ (zero : n ≡ 0).
          let gone : drop offset line ≡ [] = sym is ∙ none zero in
          ap (λ (l : List ℕ). l ++ rest) (later ∙ ap (λ (m : ℕ). drop m (drop offset line)) zero ∙ gone)
          ∙ end (not_ended line offset gone);
      stays = tt;
      counts = record { rose = λ failed. let never : ⊥ = cc in absurd never; stays = λ _. refl; never_falls = omega arith };
    }

-- What a sink took of some bytes, and what is left of them.
use Rattle.std.proofs.Common.{◌≡◌, ℕ, suc, ◌<◌, ◌+◌, List, [], ◌∷◌, ◌++◌, Option, OnErr, Result, Ok, Err, length, take, drop, map, slice_index_or, refl, ap, subst, sym, ◌∙◌, append_assoc, arith}
use Rattle.std.proofs.lemmas.List.{at_drop_more, take-append-le}
use Rattle.std.specs.Io.KnownBytes.{append_known}
use Rattle.byte_lines.proofs.LawLemmas.{append_known-more}
use Rattle.byte_lines.specs.declared.sink.SinkFault.{SinkFault}
use Rattle.load_model.specs.Json.{joined}

-- of `all` it took some, and `rest` is left
pub record Wrote (had has : Option (List ℕ)) (rest all : List ℕ) : Type 0 where
  pub bytes : List ℕ
  pub taken : has ≡ append_known had bytes
  pub whole : all ≡ bytes ++ rest

-- all of the first bytes and some of the others are first bytes
past : (xs ys : List ℕ) (k : ℕ) → (m : ℕ) × (take m (xs ++ ys) ≡ xs ++ take k ys)
past [] ys k = (k, refl)
past (x ∷ xs) ys k = let r = past xs ys k in (suc r.0, ap (λ (l : List ℕ). x ∷ l) r.1)

-- a line more was written
wrote_more : {had has : Option (List ℕ)} {all : List ℕ} (has' : Option (List ℕ)) (line rest : List ℕ) → Wrote had has (line ++ rest) all → has' ≡ append_known has line → Wrote had has' rest all
wrote_more {had} {has} {all} has' line rest w more = record {
  bytes = w.bytes ++ line;
  taken = more ∙ ap (λ (t : Option (List ℕ)). append_known t line) w.taken ∙ append_known-more had w.bytes line;
  whole = w.whole ∙ sym (append_assoc w.bytes line rest);
}

-- a part of a line more was written
wrote_part : {had has : Option (List ℕ)} {all : List ℕ} (has' : Option (List ℕ)) (line rest : List ℕ) → Wrote had has (line ++ rest) all
    → (n : ℕ) × (n < length line) × (has' ≡ append_known has (take n line)) → (k : ℕ) × (has' ≡ append_known had (take k all))
wrote_part {had} {has} {all} has' line rest w (n, below, part) =
    let p = past w.bytes (line ++ rest) n in (
      p.0,
      part
          ∙ ap (λ (t : Option (List ℕ)). append_known t (take n line)) w.taken
          ∙ append_known-more had w.bytes (take n line)
          ∙ ap (λ (l : List ℕ). append_known had (w.bytes ++ l)) (sym (take-append-le n line rest (omega (arith, below))))
          ∙ ap (λ (l : List ℕ). append_known had l) (sym p.1)
          ∙ ap (λ (l : List ℕ). append_known had (take p.0 l)) (sym w.whole),
    )

-- ---- lines

-- the lines from a place on are that line and those after it
left_is : {X : Type 0} (bytes : X → List ℕ) (xs : List X) (i : ℕ) (x : X) → i < length xs → x ≡ slice_index_or xs i x → joined (map bytes (drop i xs)) ≡ bytes x ++ joined (map bytes (drop (i + 1) xs))
left_is {X} bytes xs i x below is =
    at_drop_more (λ (ys : List X). joined (map bytes ys)) xs i x below ∙ ap (λ (y : X). bytes y ++ joined (map bytes (drop (i + 1) xs))) (sym is)

-- a line was written
pub wrote_line : {X : Type 0} (bytes : X → List ℕ) (xs : List X) (i : ℕ) (x : X) → i < length xs → x ≡ slice_index_or xs i x
    → {had has : Option (List ℕ)} {all : List ℕ} (has' : Option (List ℕ)) → Wrote had has (joined (map bytes (drop i xs))) all → has' ≡ append_known has (bytes x)
    → Wrote had has' (joined (map bytes (drop (i + 1) xs))) all
wrote_line bytes xs i x below is {had} {has} {all} has' w more =
    wrote_more has' (bytes x) (joined (map bytes (drop (i + 1) xs))) (subst (λ (rest : List ℕ). Wrote had has rest all) (left_is bytes xs i x below is) w) more

-- a part of one was written
pub wrote_cut : {X : Type 0} (bytes : X → List ℕ) (xs : List X) (i : ℕ) (x : X) → i < length xs → x ≡ slice_index_or xs i x
    → {had has : Option (List ℕ)} {all : List ℕ} (has' : Option (List ℕ)) → Wrote had has (joined (map bytes (drop i xs))) all
    → (n : ℕ) × (n < length (bytes x)) × (has' ≡ append_known has (take n (bytes x))) → (k : ℕ) × (has' ≡ append_known had (take k all))
wrote_cut bytes xs i x below is {had} {has} {all} has' w part =
    wrote_part has' (bytes x) (joined (map bytes (drop (i + 1) xs))) (subst (λ (rest : List ℕ). Wrote had has rest all) (left_is bytes xs i x below is) w) part

-- ---- answers

-- what holds holds on an error
pub on_err : {P : Type 0} (r : Result (Unit {0}) SinkFault) → P → OnErr r P
on_err (Ok done) p = tt
on_err (Err fault) p = p

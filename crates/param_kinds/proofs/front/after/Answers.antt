-- What follows the bytes that come first.
use Rattle.std.proofs.Common.{◌≡◌, ℕ, ◌+◌, ◌++◌, true, false, List, Option, Some, None, IfSome, MatchOption, Bor, length, take, drop, ap, sym, ◌∙◌, refl, true≢false}
use Rattle.std.proofs.lemmas.Option.{none-some}
use Rattle.std.proofs.lemmas.List.{take_at, take-append-drop}
use Rattle.std.proofs.lemmas.Slice.Eq.{bytes_eq-Decides}
use Rattle.std.specs.Str.{bytes_eq}
use Rattle.param_kinds.proofs.front.after.Goals as goal

comes_first : (line first rest : List ℕ) → bytes_eq (take (length first) line) first ≡ true → rest ≡ drop (length first) line → line ≡ first ++ rest
comes_first line first rest same is =
    sym (take-append-drop (length first) line)
    ∙ ap (λ (l : List ℕ). l ++ drop (length first) line) ((bytes_eq-Decides (take (length first) line) first).0 same)
    ∙ ap (λ (l : List ℕ). first ++ l) (sym is)

not_first : (line first rest : List ℕ) → bytes_eq (take (length first) line) first ≡ false → line ≡ first ++ rest → ⊥
not_first line first rest other is =
    let same : take (length first) line ≡ first = ap (take (length first)) is ∙ take_at first rest (length first) refl in
    true≢false (sym ((bytes_eq-Decides (take (length first) line) first).1 same) ∙ other)

abbrev Cut : List ℕ → List ℕ → Option (Bor (List ℕ)) → Type 0
Cut line first o = MatchOption o (bytes_eq (take (length first) line) first ≡ false)
    (λ x. (bytes_eq (take (length first) line) first ≡ true) × (x.now ≡ drop (length first) line) × (length x.now + length first ≡ length line))

some_by : (line first : List ℕ) (o : Option (Bor (List ℕ))) → Cut line first o → IfSome o (λ rest. line ≡ first ++ rest.now)
some_by line first None h = tt
some_by line first (Some x) h = comes_first line first x.now h.0 h.1

none_by : (line first : List ℕ) (o : Option (Bor (List ℕ))) → Cut line first o → o ≡ None → (rest : List ℕ) → line ≡ first ++ rest → ⊥
none_by line first None h e rest is = not_first line first rest h is
none_by line first (Some x) h e rest is = absurd (none-some x (sym e))

pub returns-clause-some : goal.returns-clause-some
returns-clause-some c = some_by c.args.line.now c.args.first.now c.strip_prefix.result c.strip_prefix.ensures.cases

pub returns-clause-none : goal.returns-clause-none
returns-clause-none c = none_by c.args.line.now c.args.first.now c.strip_prefix.result c.strip_prefix.ensures.cases

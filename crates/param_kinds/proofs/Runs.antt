-- Lines that are read one after another.
use Rattle.std.proofs.Common.{◌≡◌, suc, ◌≤◌, ◌&&◌, Bool, true, List, [], ◌∷◌, ◌++◌, Option, Some, None, Result, Ok, Err, IfOk, codes, drop, length, map, refl, ap, sym, ◌∙◌, subst, true≢false, arith, append_assoc}
use Rattle.std.proofs.lemmas.Bool.{and_parts}
use Rattle.std.proofs.lemmas.List.{length-map, map-append}
use Rattle.line_giver.specs.Giving.{Giving, HasPassed, IsThrough, known_after, lines_of_giving}
use Rattle.line_giver.proofs.Passing.{passed_both}
use Rattle.line_kinds.specs.Cuts.{are_plain}
use Rattle.line_kinds.specs.Kinds.{ReadsLine}
use Rattle.text_model.specs.ParamLines.{param}
use Rattle.text_forms.specs.Lines.{joined}
use Rattle.text_model.specs.Words.{Text}
use Rattle.param_kinds.specs.Runs.{Breaks, IsSeen, ReadsLines, whole}

-- ---- lists

-- what follows fronts of one length
pub cancel : {A : Type 0} (xs ys us vs : List A) → length xs ≡ length ys → xs ++ us ≡ ys ++ vs → us ≡ vs
cancel [] [] us vs n e = e
cancel [] (y ∷ ys) us vs n e = absurd (omega (arith, n))
cancel (x ∷ xs) [] us vs n e = absurd (omega (arith, n))
cancel {A} (x ∷ xs) (y ∷ ys) us vs n e = cancel xs ys us vs (omega (arith, n)) (ap (λ (l : List A). drop 1 l) e)

-- ---- two items

module _ {I J : Type 0} (f : I → Bool) (g : J → Bool) (la : I → List (List Text)) (lb : J → List (List Text)) where
  abbrev both_form : I × J → Bool
  both_form x = f x.0 && g x.1

  abbrev both_lines : I × J → List (List Text)
  both_lines x = la x.0 ++ lb x.1

  whole_both : (x : I × J) → whole both_form both_lines x ≡ whole f la x.0 ++ whole g lb x.1
  whole_both x = ap (map Some) (map-append joined (la x.0) (lb x.1)) ∙ map-append Some (map joined (la x.0)) (map joined (lb x.1))

  module _ {Stream : Type 0} {p q r : Stream → List (Option Text) → Type 0} {old mid new : Giving} where
    -- the first was read, and what follows is of no second
    pub second_none : ((x y : I) → length (la x) ≡ length (la y)) → (a : I) → ReadsLines f la p q old mid (Some a) → ReadsLines g lb q r mid new None → ReadsLines both_form both_lines p r old new None
    second_none count a first n = (
      whole f la a ++ n.0,
      passed_both (whole f la a) n.0 first.1 n.1,
      record {
        none = λ x h after rest at_end e.
            let both = and_parts (f x.0) (g x.1) h in
            let as_many : length (whole f la a) ≡ length (whole f la x.0) = length-map (map joined (la a)) Some ∙ length-map (la a) joined ∙ count a x.0 ∙ sym (length-map (la x.0) joined) ∙ sym (length-map (map joined (la x.0)) Some) in
            let apart : whole f la a ++ (n.0 ++ (new.seen ++ after)) ≡ whole f la x.0 ++ (whole g lb x.1 ++ rest) =
            sym (append_assoc (whole f la a) n.0 (new.seen ++ after)) ∙ e ∙ ap (λ (l : List (Option Text)). l ++ rest) (whole_both x) ∙ append_assoc (whole f la x.0) (whole g lb x.1) rest in
            n.2.none x.1 both.1 after rest at_end (cancel (whole f la a) (whole f la x.0) _ _ as_many apart);
        end = n.2.end;
      },
    )

-- ---- one line

abbrev first_or : List (Option Text) → Option Text
first_or [] = None
first_or (o ∷ os) = o

module _ {I : Type 0} (form : I → Bool) (words : I → List Text) where
  not_lines : (x : I) (seen after rest : List (Option Text)) → length seen ≤ 1 → (seen ≡ Some (joined (words x)) ∷ [] → ⊥) → (seen ≡ [] → after ≡ []) → seen ++ after ≡ Some (joined (words x)) ∷ rest → ⊥
  not_lines x [] after rest few none at_end e = let n : 0 ≡ suc (length rest) = ap length (sym (at_end refl) ∙ e) in omega (arith, n)
  not_lines x (y ∷ []) after rest few none at_end e = none (ap (λ (o : Option Text). o ∷ []) (ap first_or e))
  not_lines x (y ∷ z ∷ zs) after rest few none at_end e = omega (arith, few)

  -- a line that is of no item
  pub one_breaks : (g : Giving) → length g.seen ≤ 1 → IsSeen form words g None → (g.seen ≡ [] → IsThrough (lines_of_giving g)) → Breaks form (λ x. words x ∷ []) [] g
  one_breaks g few none end = record {
    none = λ x h after rest at_end e. not_lines x g.seen after rest few (none x h) at_end e;
    end = end;
  }

-- ---- the line of a parameter

-- what follows the name
pub cut_twice : (line name named spaced value : Text) → line ≡ codes "param " ++ named → named ≡ name ++ spaced → line ≡ codes "param " ++ (name ++ 32 ∷ value) → spaced ≡ 32 ∷ value
cut_twice line name named spaced value a b is =
    let after : named ≡ name ++ 32 ∷ value = cancel (codes "param ") (codes "param ") named (name ++ 32 ∷ value) refl (sym a ∙ is) in
    cancel name name spaced (32 ∷ value) refl (sym b ∙ after)

named_line : (name : Text) (ws : List Text) → are_plain ws ≡ true → joined (param name ws) ≡ codes "param " ++ (name ++ 32 ∷ joined ws)
named_line name [] p = absurd (true≢false (sym p))
named_line name (w ∷ ws) p = refl

module _ {I : Type 0} (form : I → Bool) (words : I → List Text) (plain : (x : I) → form x ≡ true → are_plain (words x) ≡ true) (name line value : Text) (is : line ≡ codes "param " ++ (name ++ 32 ∷ value)) where
  named_reads : (o : Option I) → ReadsLine form words value o → ReadsLine form (λ x. param name (words x)) line o
  named_reads o reads = record {
    some = λ x e. let it = reads.some x e in record { form = it.form; text = is ∙ ap (λ (t : Text). codes "param " ++ (name ++ 32 ∷ t)) it.text ∙ sym (named_line name (words x) (plain x it.form)) };
    all = λ x it.
        let spaced : 32 ∷ value ≡ 32 ∷ joined (words x) = cut_twice line name (name ++ 32 ∷ value) (32 ∷ value) (joined (words x)) is refl (it.text ∙ named_line name (words x) (plain x it.form)) in
        reads.all x (record { form = it.form; text = cancel (32 ∷ []) (32 ∷ []) value (joined (words x)) refl spaced });
  }

  -- the value that follows the name was read
  pub named_ok : {E : Type 0} (r : Result (Option I) E) → IfOk r (ReadsLine form words value) → IfOk r (ReadsLine form (λ x. param name (words x)) line)
  named_ok (Ok o) reads = named_reads o reads
  named_ok (Err e) reads = tt

-- A part that is read as a group.
use Rattle.std.proofs.Common.{◌≡◌, ◌++◌, Bool, true, List, Option, Some, refl, ap, sym, ◌∙◌, subst}
use Rattle.std.proofs.lemmas.Option.{same_Some}
use Rattle.text_model.specs.Words.{Text}
use Rattle.line_giver.specs.Giving.{Giving, HasPassed}
use Rattle.line_parts.specs.Parts.{Comes, IsRead, lines_of}
use Rattle.line_parts.specs.Shapes.{Shape}
use Rattle.line_parts.proofs.Lefts.{some_none}

module _ {I T : Type 0} (s : Shape) (form : I → Bool) (words : I → List (List Text)) (form' : T → Bool) (rows : T → List (List Text)) (items : T → I)
    (same_rows : (x : T) → words (items x) ≡ rows x) (same_form : (x : T) → form (items x) ≡ form' x) where
  -- a group comes, and so do its items
  items_come : {all : Option (List (Option Text))} (x : T) (more : List (Option Text)) → Comes s form' rows all x more → Comes s form words all (items x) more
  items_come x more comes = record {
    form = same_form x ∙ comes.form;
    apart = comes.apart;
    left = comes.left ∙ ap (λ (t : List (List Text)). Some (lines_of t ++ more)) (sym (same_rows x));
  }

  module _ {Stream : Type 0} {p q : Stream → List (Option Text) → Type 0} {old new : Giving} where
    -- a group of the items that were read
    pub one_group : ((x y : T) → items x ≡ items y → x ≡ y) → (x : T) (i : I) → items x ≡ i → IsRead s form words p q old new (Some i) → IsRead s form' rows p q old new (Some x)
    one_group one x i is reads =
        let has : form' x ≡ true = sym (same_form x) ∙ ap form is ∙ reads.form i refl in
        let all : HasPassed p q old new (lines_of (rows x)) = subst (λ t. HasPassed p q old new (lines_of t)) (ap words (sym is) ∙ same_rows x) (reads.passed i refl) in
        record {
          form = λ y e. subst (λ (t : T). form' t ≡ true) (same_Some x y e) has;
          passed = λ y e. subst (λ (t : T). HasPassed p q old new (lines_of (rows t))) (same_Some x y e) all;
          none = λ e firm. absurd (some_none x e);
          some = λ may e. some_none x e;
          all = λ y more comes. ap Some (one x y (is ∙ same_Some i (items y) (reads.all (items y) more (items_come y more comes))));
        }

-- Parameters that are read from their lines, and from no others.
use Rattle.std.proofs.Common.{◌≡◌, ◌++◌, true, false, List, [], ◌∷◌, Option, Some, None, Result, Ok, Err, IfOk, ap, sym, ◌∙◌, subst, append_assoc}
use Rattle.std.proofs.lemmas.Bool.{false≢true}
use Rattle.std.proofs.lemmas.Option.{none-some, same_Some}
use Rattle.pparams.specs.declared.Params.{Params}
use Rattle.text_forms.specs.States.{are_params}
use Rattle.text_model.specs.ParamLines.{param_lines}
use Rattle.text_model.specs.Words.{Text}
use Rattle.line_giver.specs.Giving.{Giving, HasPassed, IsThrough, known_after, lines_of_giving}
use Rattle.line_parts.specs.Parts.{Comes, IsRead, lines_of}
use Rattle.param_kinds.specs.Runs.{Breaks, ReadsLines}
use Rattle.checkpoint_reader.specs.Gathered.{params_shape}
use Rattle.checkpoint_reader.proofs.ParamLaws.{params_same}

-- the same lines of parameters come first
same_by : (x y : Params) (more : List (Option Text)) (left : Option (List (Option Text))) → are_params x ≡ true → are_params y ≡ true → Some (lines_of (param_lines y) ++ more) ≡ known_after (lines_of (param_lines x)) left → x ≡ y
same_by x y more None p q was = absurd (none-some (lines_of (param_lines y) ++ more) (sym was))
same_by x y more (Some rest) p q was = params_same x y rest more p q (sym (same_Some (lines_of (param_lines y) ++ more) (lines_of (param_lines x) ++ rest) was))

-- where other lines come, no parameters do
none_by : (front seen : List (Option Text)) (after : Option (List (Option Text))) (y : Params) (more : List (Option Text)) → Some (lines_of (param_lines y) ++ more) ≡ known_after front (known_after seen after)
    → (seen ≡ [] → IsThrough (known_after seen after)) → ((rest others : List (Option Text)) → (seen ≡ [] → rest ≡ []) → front ++ (seen ++ rest) ≡ lines_of (param_lines y) ++ others → ⊥) → ⊥
none_by front seen None y more was through breaks = none-some (lines_of (param_lines y) ++ more) (sym was)
none_by front seen (Some after) y more was through breaks =
    breaks after more (λ e. subst (λ (s : List (Option Text)). s ++ after ≡ []) e (through e)) (sym (same_Some (lines_of (param_lines y) ++ more) (front ++ (seen ++ after)) was))

module _ {Stream : Type 0} {p q : Stream → List (Option Text) → Type 0} {old new : Giving} where
  pub params_read : (r : Option Params) → ReadsLines are_params param_lines p q old new r → IsRead params_shape are_params param_lines p q old new r
  params_read None reads = record {
    form = λ x e. absurd (none-some x e);
    passed = λ x e. absurd (none-some x e);
    none = λ e firm. absurd (false≢true firm);
    some = λ may e. absurd (false≢true may);
    all = λ x more comes.
        absurd (none_by reads.0 new.seen new.after x more (sym comes.left ∙ reads.1.left) reads.2.end (λ rest others e same. reads.2.none x comes.form rest others e same));
  }
  params_read (Some y) reads = record {
    form = λ x e. subst (λ (t : Params). are_params t ≡ true) (same_Some y x e) reads.0;
    passed = λ x e. subst (λ (t : Params). HasPassed p q old new (lines_of (param_lines t))) (same_Some y x e) reads.1;
    none = λ e firm. absurd (none-some y (sym e));
    some = λ may e. none-some y (sym e);
    all = λ x more comes. ap Some (same_by y x more (lines_of_giving new) reads.0 comes.form (sym comes.left ∙ reads.1.left));
  }

pub params_result : {E Stream : Type 0} (p q : Stream → List (Option Text) → Type 0) (old new : Giving) (r : Result (Option Params) E) → IfOk r (ReadsLines are_params param_lines p q old new) → IfOk r (IsRead params_shape are_params param_lines p q old new)
params_result p q old new (Ok g) reads = params_read g reads
params_result p q old new (Err e) reads = tt

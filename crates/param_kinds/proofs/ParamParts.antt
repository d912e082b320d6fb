-- The lines of the parts are the lines of the parameters.
use Rattle.std.proofs.Common.{◌≡◌, Bool, List, Option, Some, None, sym, subst}
use Rattle.line_giver.specs.Giving.{Giving}
use Rattle.pparams.specs.declared.Params.{Params}
use Rattle.text_forms.specs.States.{are_params}
use Rattle.text_model.specs.ParamLines.{param_lines}
use Rattle.text_model.specs.Words.{Text}
use Rattle.param_kinds.specs.Parts.{Parts, params_from, parts_of}
use Rattle.param_kinds.specs.Runs.{ReadsLines}

abbrev pub parts_form : Parts → Bool
parts_form t = are_params (params_from t)

abbrev pub parts_lines : Parts → List (List Text)
parts_lines t = param_lines (params_from t)

module _ {Stream : Type 0} {p q : Stream → List (Option Text) → Type 0} {old new : Giving} where
  -- the parts were read
  pub some_params : (t : Parts) (x : Params) → x ≡ params_from t → ReadsLines parts_form parts_lines p q old new (Some t) → ReadsLines are_params param_lines p q old new (Some x)
  some_params t x is reads = subst (λ (y : Params). ReadsLines are_params param_lines p q old new (Some y)) (sym is) reads

  -- they were not
  pub no_params : ReadsLines parts_form parts_lines p q old new None → ReadsLines are_params param_lines p q old new None
  no_params reads = (
    reads.0,
    reads.1,
    record { none = λ x h after rest at_end e. reads.2.none (parts_of x) h after rest at_end e; end = reads.2.end },
  )

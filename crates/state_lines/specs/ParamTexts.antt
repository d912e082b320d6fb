-- The words of a parameter's line. (Own)
use Rattle.std.specs.Prelude.{List, [], ◌∷◌}
use Rattle.state_lines.specs.declared.params.Param.{Param}
use Rattle.state_lines.specs.declared.params.Value.{Value}
use Rattle.state_lines.specs.declared.params.Value.TheVariants.{One, Two, Shares}
use Rattle.report.specs.WordTexts.{word_text}
use Rattle.text_model.specs.ParamLines.{param, shares}
use Rattle.text_model.specs.Words.{Text}

-- of its value
abbrev pub value_words : Value → List Text
value_words (One word) = word_text word ∷ []
value_words (Two first second) = word_text first ∷ word_text second ∷ []
value_words (Shares fractions) = shares fractions.now

-- of its line
abbrev pub param_words : Param → List Text
param_words p = param p.name.now (value_words p.value)

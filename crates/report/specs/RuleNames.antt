-- The texts of rules as the program holds them. (Own)
use Rattle.std.specs.Prelude.{map}
use Rattle.text_model.specs.of_tx_records.RuleTexts as texts
use Rattle.text_model.specs.of_tx_records.RuleTexts.{rule_text}
use Rattle.report.specs.declared.rule_texts.RuleText.{RuleText}

-- a rule's text, with its words as texts
abbrev pub text_seen : RuleText → texts.RuleText
text_seen t = rule_text t.number t.name.now (map (λ w. w.now) t.words.now)

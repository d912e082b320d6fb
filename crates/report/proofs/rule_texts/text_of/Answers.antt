use Rattle.std.proofs.Common.{◌==◌, List, find, ap, ◌∙◌}
use Rattle.text_model.specs.of_tx_records.RuleTexts.{RuleText}
use Rattle.report.proofs.RulesFound.{found_is}
use Rattle.report.proofs.rule_texts.text_of.Goals as goal

pub returns : goal.returns
returns c =
    found_is c.args.number c.table.result.now c.text_in.result c.text_in.ensures
    ∙ ap (λ (ts : List RuleText). find (λ (t : RuleText). t.number == c.args.number) ts) c.table.ensures

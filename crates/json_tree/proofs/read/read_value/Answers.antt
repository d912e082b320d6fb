use Rattle.std.proofs.Common.{sym, ap, ◌∙◌}
use Rattle.serde_json.specs.Read.{read}
use Rattle.json_tree.proofs.Texts.{of_no_text, of_text}
use Rattle.json_tree.proofs.read.read_value.Goals as goal

pub returns-in_default : goal.returns-in_default
returns-in_default c = of_no_text c.args.bytes.now (read c.args.bytes.now) c.in_default.ensures

pub returns-in-Ok-value_of_text : goal.returns-in-Ok-value_of_text
returns-in-Ok-value_of_text c =
    let is = c.in-Ok.ensures in
    sym c.in-Ok-value_of_text.ensures.ok ∙ ap read is.0 ∙ of_text c.args.bytes.now (read c.args.bytes.now) is.1

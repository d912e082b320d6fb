use Rattle.std.proofs.Common.{◌∙◌}
use Rattle.action_read.specs.Params.{param_names}
use Rattle.action_read.proofs.Names.{any_text-flip}
use Rattle.action_read.proofs.params.is_param_name.Goals as goal

pub returns : goal.returns
returns c = c.contains.ensures.value ∙ any_text-flip c.args.name.now param_names

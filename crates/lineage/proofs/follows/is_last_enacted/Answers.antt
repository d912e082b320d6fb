use Rattle.std.proofs.Common.{Option, ap, ◌∙◌}
use Rattle.gov_ids.specs.declared.ActionId.{ActionId}
use Rattle.gov_ids.specs.Same.{same_action}
use Rattle.gov_model.proofs.Sames.{previous_same}
use Rattle.maps.specs.Words.{same_option}
use Rattle.lineage.proofs.follows.is_last_enacted.Goals as goal

pub returns : goal.returns
returns c =
    c.eq.ensures ∙ previous_same c.args.previous c.of.result ∙ ap (λ (o : Option ActionId). same_option same_action c.args.previous o) c.of.ensures

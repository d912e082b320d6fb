use Rattle.draft_changes.proofs.Naming.{leaving_keeps_other_votes}
use Rattle.draft_changes.proofs.laws.leaving_keeps_other_votes.Goals as goal

pub returns : goal.returns
returns c = leaving_keeps_other_votes

use Rattle.std.proofs.Common.{Some}
use Rattle.text_forms.specs.Snapshots.{action_words}
use Rattle.checkpoint_print.proofs.Taken.{made_at}
use Rattle.checkpoint_print.proofs.live.LiveActionsLineSource.next_line.Goals as goal

pub returns : goal.returns
returns c = made_at action_words c.args.self.now.proposals.now c.args.self.now.index (Some c.in_ok-proposal.proposal.now) c.in_ok-proposal.ensures

use Rattle.action_lengths.proofs.Lines.{lines_hold_their_actions}
use Rattle.action_lengths.proofs.laws.lines_hold_their_actions.Goals as goal

pub returns : goal.returns
returns c = lines_hold_their_actions

use Rattle.checkpoint_lists.proofs.Worlds.{shown_same}
use Rattle.checkpoint_lists.proofs.shown.shown_are_of_worlds.Goals as goal

pub returns : goal.returns
returns c = shown_same

use Rattle.text_laws.proofs.Walks.{pots_move}
use Rattle.text_laws.proofs.laws.pots_move.Goals as goal

pub returns : goal.returns
returns c = pots_move

use Rattle.json_lengths.proofs.Values.{texts_hold_their_values}
use Rattle.json_lengths.proofs.laws.texts_hold_their_values.Goals as goal

pub returns : goal.returns
returns c = texts_hold_their_values

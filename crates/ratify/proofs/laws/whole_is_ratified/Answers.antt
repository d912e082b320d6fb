use Rattle.std.proofs.Common.{refl}
use Rattle.ratify.proofs.Told.{ratified_is, state_is, tallies_are}
use Rattle.ratify.proofs.laws.whole_is_ratified.Goals as goal

pub returns : goal.returns
returns c = λ s own. record { list = refl; ratified = ratified_is s own; state = state_is s own; tallies = tallies_are s own }

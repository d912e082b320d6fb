use Rattle.load_laws.proofs.Begins.{streams_begin_well}
use Rattle.load_laws.proofs.Lengths.{streams_are_short}
use Rattle.load_laws.proofs.laws.made_streams.Goals as goal

pub returns-clause-begins : goal.returns-clause-begins
returns-clause-begins c = streams_begin_well

pub returns-clause-short : goal.returns-clause-short
returns-clause-short c = streams_are_short

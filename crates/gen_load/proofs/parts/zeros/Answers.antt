use Rattle.std.proofs.lemmas.List.{take-replicate}
use Rattle.gen_load.proofs.parts.zeros.Goals as goal

pub returns : goal.returns
returns c = take-replicate c.args.count 64 48 c.requires

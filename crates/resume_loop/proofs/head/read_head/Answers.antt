-- What was read of the bytes.
use Rattle.std.proofs.Common.{refl, rules}
use Rattle.resume_loop.proofs.HeadRead.{reads_as, reads_bytes}
use Rattle.resume_loop.proofs.head.read_head.Goals as goal

pub returns-clause-reads : goal.returns-clause-reads
returns-clause-reads g c = λ bytes gave.
    reads_as (reads_bytes c.read_text.ensures.reads refl refl refl bytes gave) (search rules) (search rules)

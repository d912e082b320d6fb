use Rattle.state_lists.specs.Worlds.{world_of_lists}
use Rattle.resuming.proofs.ReadAs.{reads_as}
use Rattle.resuming.proofs.resumed.ResumedResumedState.read_checkpoint.Goals as goal

pub returns-clause-reads : goal.returns-clause-reads
returns-clause-reads g c =
    reads_as world_of_lists (λ r. r.held.ledger) c.in-Some.lists c.in_ok-resumed.resumed c.in-Some.line c.in_ok-resumed.ensures
    (rw c.in-Some.is at c.in_ok-lists.ensures.reads)

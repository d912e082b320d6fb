-- The first kind does not read the line: the second does, or none.
use Rattle.checkpoint_lists.proofs.PotsLaws.{reads_no_pending, reads_pending}
use Rattle.checkpoint_lists.proofs.pots.PendingOrNoneLineReader.read_line.Goals as goal

-- src/pots.rt:64:5
pub returns-in-Some-2 : goal.returns-in-Some-2
returns-in-Some-2 c = reads_pending c.in-Some-2.update (rw c.in_default.is at c.in_ok-read_line.ensures) (rw c.in-Some-2.is at c.in_ok-update.ensures)

-- src/pots.rt:64:5
pub returns-in-None : goal.returns-in-None
returns-in-None c = reads_no_pending (rw c.in_default.is at c.in_ok-read_line.ensures) (rw c.in-None.is at c.in_ok-update.ensures)

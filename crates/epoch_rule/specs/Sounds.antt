-- What the steps of a boundary require at their begin. (Own)
use Rattle.std.specs.Prelude.{◌≡◌, ℕ}
use Rattle.drep_pulser.specs.Count.{Ended}
use Rattle.epoch_steps.specs.Decisions.{decided_of}
use Rattle.epoch_steps.specs.declared.pass.Decided.{Decided}
use Rattle.gov_model.specs.Snapshot.{Snapshot}
use Rattle.ledger_books.specs.declared.Books.{Books}
use Rattle.ledger_books.specs.Parts.{world_of_books}
use Rattle.run_model.specs.SoundWorld.{IsSoundWorld}
use Rattle.snapshots.specs.declared.frozen.Frozen.{Frozen}
use Rattle.tally.specs.Counted.{AreOf}

-- with so many counted entries of a snapshot the books are a sound World, and the frozen epoch and
-- the ended count are of that snapshot
pub record AreSoundBooks (b : Books) (counted : ℕ) (s : Snapshot) (f : Frozen) (c : Ended) : Type 0 where
  pub sound : IsSoundWorld (world_of_books b counted s)
  pub frozen : AreOf s f c

-- the books are such a World, and this is what the snapshot decides
pub record AreDecidedBooks (b : Books) (counted : ℕ) (s : Snapshot) (d : Decided) : Type 0 where
  pub sound : IsSoundWorld (world_of_books b counted s)
  pub decided : d ≡ decided_of s

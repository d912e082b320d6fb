-- Sums of an entry that stays.
use Rattle.std.specs.Prelude.{refl}
use Rattle.book_records.specs.declared.Entry.{Entry}
use Rattle.stake_book.specs.Summed.{Summed, HasBecome}

-- an entry that becomes itself leaves the sums
pub becomes_itself : (e : Entry) (s : Summed) → HasBecome e e s s
becomes_itself e s = record {
  balances = refl;
  pools = λ p. refl;
  total = refl;
  counts = record { pools = λ p. refl; dreps = λ c. refl };
}

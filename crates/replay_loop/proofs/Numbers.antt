-- The number with which a run ends says how, and a fault of the sink is no fault of the source.
use Rattle.std.proofs.Common.{◌≡◌, ℕ, Result, Ok, Err, ap, refl, arith}
use Rattle.std.specs.Prelude.{IsErr, IsErrAnd}
use Rattle.byte_lines.specs.Faults.{CountsFaults}
use Rattle.replay_loop.specs.declared.status.Status.{Status}
use Rattle.replay_loop.specs.declared.status.Status.TheVariants as statuses
use Rattle.replay_loop.specs.Statuses.{NumbersTell, status_number}

pub is_usage : (status : Status) → status_number status ≡ 2 → status ≡ statuses.Usage
is_usage statuses.Usage e = refl
is_usage statuses.Done e = cc
is_usage (statuses.BadGenesis cause) e = cc
is_usage statuses.ReadFault e = cc
is_usage statuses.WriteFault e = cc
is_usage statuses.NoMemory e = cc
is_usage statuses.TooMuch e = cc
is_usage statuses.BadCheckpoint e = cc

pub is_read_fault : (status : Status) → status_number status ≡ 4 → status ≡ statuses.ReadFault
is_read_fault statuses.ReadFault e = refl
is_read_fault statuses.Done e = cc
is_read_fault statuses.Usage e = cc
is_read_fault (statuses.BadGenesis cause) e = cc
is_read_fault statuses.WriteFault e = cc
is_read_fault statuses.NoMemory e = cc
is_read_fault statuses.TooMuch e = cc
is_read_fault statuses.BadCheckpoint e = cc

pub is_write_fault : (status : Status) → status_number status ≡ 5 → status ≡ statuses.WriteFault
is_write_fault statuses.WriteFault e = refl
is_write_fault statuses.Done e = cc
is_write_fault statuses.Usage e = cc
is_write_fault (statuses.BadGenesis cause) e = cc
is_write_fault statuses.ReadFault e = cc
is_write_fault statuses.NoMemory e = cc
is_write_fault statuses.TooMuch e = cc
is_write_fault statuses.BadCheckpoint e = cc

pub is_bad_checkpoint : (status : Status) → status_number status ≡ 8 → status ≡ statuses.BadCheckpoint
is_bad_checkpoint statuses.BadCheckpoint e = refl
is_bad_checkpoint statuses.Done e = cc
is_bad_checkpoint statuses.Usage e = cc
is_bad_checkpoint (statuses.BadGenesis cause) e = cc
is_bad_checkpoint statuses.ReadFault e = cc
is_bad_checkpoint statuses.WriteFault e = cc
is_bad_checkpoint statuses.NoMemory e = cc
is_bad_checkpoint statuses.TooMuch e = cc

pub numbers_tell : NumbersTell
numbers_tell = record { usage = is_usage; read_fault = is_read_fault; write_fault = is_write_fault; bad_checkpoint = is_bad_checkpoint }

-- faults counted by one word are counted by another of the same meaning
pub counts_as : (failed other : Type 0) (old new : ℕ) → (failed → other) → (other → failed) → CountsFaults failed old new → CountsFaults other old new
counts_as failed other old new to back counts = record {
  rose = λ o. counts.rose (back o);
  stays = λ no. counts.stays (λ f. no (to f));
  never_falls = counts.never_falls;
}

-- where there was no fault, none is counted
pub none_counted : (failed : Type 0) (old new : ℕ) → (failed → ⊥) → new ≡ old → CountsFaults failed old new
none_counted failed old new none same = record {
  rose = λ f. absurd (none f);
  stays = λ no. same;
  never_falls = omega (arith, same);
}

-- what went well is no fault
pub not_err : (value fault : Type 0) (r : Result value fault) (v : value) (e : fault) → r ≡ Ok v → r ≡ Err e → ⊥
not_err value fault r v e is h = cc

-- what `?` answers of a fault, by what the fault becomes
pub became : (value fault : Type 0) (r : Result value fault) (f : fault) → IsErr r × IsErrAnd r (λ g. g ≡ f) → r ≡ Err f
became value fault (Ok v) f h = absurd h.1
became value fault (Err g) f h = ap (λ (x : fault). Err x) h.1

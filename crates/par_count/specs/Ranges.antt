-- The ranges of workers, by the first byte of an account's hash. (Own)
use Rattle.std.specs.Prelude.{ℕ, ◌≡◌, ◌+◌, ◌-◌, ◌*◌, ◌/◌, ◌||◌, ◌==◌, List, ◌∷◌, Option, None, Some, if◌then◌else◌, length, replicate}
use Rattle.gov_ids.specs.declared.CredKind.TheVariants.{Script}
use Rattle.gov_ids.specs.declared.Credential.{Credential}
use Rattle.book_records.specs.declared.Entry.{Entry}
use Rattle.drep_pulser.specs.Count.{Count}
use Rattle.drep_pulser.specs.Facts.{AreSums}
use Rattle.drep_pulser.specs.Parts.{by_drep, entries_between, entries_left}

-- the first byte of a worker's range
abbrev pub first_byte : ℕ → ℕ → ℕ
first_byte worker workers = worker * 256 / workers

-- the last credential whose hash begins below a byte
abbrev pub last_below : ℕ → Credential
last_below byte = record { hash = (byte - 1) ∷ replicate 27 255; kind = Script }

-- the last credential before a worker's range; none before the first and after the last range
abbrev pub last_before : ℕ → ℕ → Option Credential
last_before worker workers = if (worker == 0) || (worker == workers) then None else Some (last_below (first_byte worker workers))

-- the entries in a worker's range
abbrev pub share_of : ℕ → ℕ → List (Credential × Entry) → List (Credential × Entry)
share_of worker workers es = entries_between (last_before worker workers) (last_before (worker + 1) workers) es

-- a part has the stake of each DRep, of the entries in a worker's range not yet visited
pub record IsShareOf (es : List (Credential × Entry)) (c : Count) (worker workers : ℕ) (part : List ℕ) : Type 0 where
  pub each : length part ≡ length c.sums
  pub sums : AreSums (share_of worker workers (entries_left c es)) c.deposits (by_drep c.sums part)

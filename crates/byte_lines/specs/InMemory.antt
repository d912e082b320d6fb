-- The values of sources and sinks in memory.
use Rattle.std.specs.Prelude.{ℕ, ◌+◌, ◌-◌, ◌^◌, List, Result, Ok, Err, min}
use Rattle.byte_lines.specs.declared.sink.SinkFault.{SinkFault}
use Rattle.byte_lines.specs.declared.sink.SinkFault.TheVariants.{WriteFault, NoMemory}

-- a source: the bytes left, and the most that one read gives
pub record Given : Type 0 where
  pub left : List ℕ
  pub part : ℕ

-- a source that fails at listed calls: the bytes left, the most that one read gives,
-- the numbers of the failing calls from 0, the number of the next call and of the faults
pub record FaultyGiven : Type 0 where
  pub left : List ℕ
  pub part : ℕ
  pub failing : List ℕ
  pub calls : ℕ
  pub faults : ℕ

-- a sink that fails at listed calls: the bytes taken, the most that one write takes,
-- the numbers of the failing calls from 0, the number of the next call and of the faults
pub record FaultyTaken : Type 0 where
  pub bytes : List ℕ
  pub part : ℕ
  pub failing : List ℕ
  pub calls : ℕ
  pub faults : ℕ

-- a count plus one, up to its greatest value
abbrev pub one_more : ℕ → ℕ
one_more n = min (n + 1) (2 ^ 64 - 1)

-- how many writes failed, with the latest one
abbrev pub faults_after : Result ℕ SinkFault → ℕ → ℕ
faults_after (Err WriteFault) faults = one_more faults
faults_after (Err NoMemory) faults = faults
faults_after (Ok n) faults = faults

-- What a write does, in terms of what the sink reports.
use Rattle.std.specs.Prelude.{◌≡◌, ℕ, ◌<◌, ◌≤◌, List, Option, Result, Err, IfOk, OnErr, length, take}
use Rattle.std.specs.Io.KnownBytes.{append_known}
use Rattle.byte_lines.specs.Faults.{CountsFaults}
use Rattle.byte_lines.specs.declared.sink.SinkFault.{SinkFault}
use Rattle.byte_lines.specs.declared.sink.SinkFault.TheVariants.{WriteFault}

-- one write of a piece: the bytes taken before and after it, and the counts of faults
pub record IsWrite (taken taken' : Option (List ℕ)) (faults faults' : ℕ) (piece : List ℕ) (result : Result ℕ SinkFault) : Type 0 where
  -- at least one byte, and no more than the piece has
  pub some : IfOk result (λ n. 0 < n)
  pub fits : IfOk result (λ n. n ≤ length piece)
  -- they are its first; a sink that reports nothing still reports nothing
  pub took : IfOk result (λ n. taken' ≡ append_known taken (take n piece))
  -- an error takes none
  pub stays : OnErr result (taken' ≡ taken)
  pub counts : CountsFaults (result ≡ Err WriteFault) faults faults'

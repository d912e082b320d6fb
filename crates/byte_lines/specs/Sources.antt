-- What a read does, in terms of what the source reports.
use Rattle.std.specs.Prelude.{◌≡◌, ℕ, ◌≤◌, List, Option, Result, IfOk, OnErr, IsErr, length, take}
use Rattle.std.specs.Io.KnownBytes.{IsAtEnd, prepend_known}
use Rattle.byte_lines.specs.Faults.{CountsFaults}
use Rattle.byte_lines.specs.declared.source.ReadFault.{ReadFault}

-- one read into a slice, which is `into` afterwards: the bytes left before and after it,
-- and the counts of faults
pub record IsRead (left left' : Option (List ℕ)) (faults faults' : ℕ) (into : List ℕ) (result : Result ℕ ReadFault) : Type 0 where
  -- no more bytes than the slice has room for
  pub fits : IfOk result (λ n. n ≤ length into)
  -- they are the first that were left; a source that reports nothing still reports nothing
  pub gave : IfOk result (λ n. left ≡ prepend_known (take n into) left')
  -- it is 0 only at the end
  pub end : IfOk result (λ n. n ≡ 0 → IsAtEnd left')
  -- a fault loses none
  pub stays : OnErr result (left' ≡ left)
  pub counts : CountsFaults (IsErr result) faults faults'

use Rattle.std.proofs.Common.{◌≡◌, ◌++◌, drop}
use Rattle.record_notes.specs.Paths.{name_text}
use Rattle.record_notes.proofs.path.push_name.Given as goal

-- what is written of the bytes so far, and the bytes that are left, are the whole name
abbrev pub invariant-loop-byte : goal.invariant-loop-byte
invariant-loop-byte l = l.path.items ++ name_text (drop l.byte-index l.name) ≡ l.initial.path.items ++ name_text l.name

use Rattle.std.proofs.Common.{◌≡◌, ◌*◌, length, take, drop}
use Rattle.hex.specs.Hex.{decode_pairs}
use Rattle.hex.proofs.Pairs.{prepend}
use Rattle.gov_ids.proofs.hashes.read_hash.Given as goal

-- the pairs so far are read, and the others decode as they do alone
abbrev pub invariant-bytes : goal.invariant-bytes
invariant-bytes g l = (length l.hash ≡ g.row.N)
    × (decode_pairs 0 l.digits ≡ prepend (take l.i l.hash) (decode_pairs (2 * l.i) (drop (2 * l.i) l.digits)))

use Rattle.std.proofs.Common.{◌≡◌, drop}
use Rattle.std.specs.Prelude.{fold}
use Rattle.maps.specs.Maps.{in_order, with_key}
use Rattle.maps.proofs.set_of.Given as goal

abbrev pub invariant-loop-key : goal.invariant-loop-key
invariant-loop-key g l = fold (λ s k. with_key g.K.Ord.cmp k s) l.set.keys (drop l.key-index l.keys) ≡ in_order g.K.Ord.cmp l.keys

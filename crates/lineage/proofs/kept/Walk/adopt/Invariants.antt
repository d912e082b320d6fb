use Rattle.std.proofs.Common.{◌≡◌, drop}
use Rattle.lineage.specs.Walks.{adopted}
use Rattle.lineage.proofs.kept.Walk.adopt.Given as goal

abbrev pub invariant-loop-child : goal.invariant-loop-child
invariant-loop-child l = adopted l.purpose (drop l.child-index l.children) l.self ≡ adopted l.purpose l.children l.fn.self

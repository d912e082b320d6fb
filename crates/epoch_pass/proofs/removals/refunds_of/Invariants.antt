use Rattle.std.proofs.Common.{◌≡◌, ◌++◌, drop, map}
use Rattle.epoch_pass.specs.Removals.{refund_of}
use Rattle.epoch_pass.proofs.removals.refunds_of.Given as goal

-- the deposits so far and those that are left
abbrev pub invariant-loop-p : goal.invariant-loop-p
invariant-loop-p l = l.refunds.items ++ map refund_of (drop l.p-index l.proposals) ≡ map refund_of l.proposals

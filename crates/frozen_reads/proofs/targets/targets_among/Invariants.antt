use Rattle.std.proofs.Common.{◌≡◌, ◌++◌, drop}
use Rattle.frozen_reads.specs.Targets.{targets_among}
use Rattle.frozen_reads.proofs.targets.targets_among.Given as goal

-- those so far, with those of the proposals that are left, are all
abbrev pub invariant-loop-p : goal.invariant-loop-p
invariant-loop-p l = l.targets.items ++ targets_among l.ids.keys (drop l.p-index l.proposals) ≡ targets_among l.ids.keys l.proposals

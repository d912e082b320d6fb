use Rattle.std.proofs.Common.{◌≡◌, ◌-◌, take}
use Rattle.gov_ids.specs.declared.Credential.{Credential}
use Rattle.proposal_store.specs.Added.{count_among, count_at}
use Rattle.proposal_store.proofs.added.AddedKeys.lower.Given as goal

-- those so far are counted no more
abbrev pub invariant-loop-cold : goal.invariant-loop-cold
invariant-loop-cold l = (c : Credential) → count_at l.self c ≡ count_at l.fn.self c - count_among c (take l.cold-index l.add)

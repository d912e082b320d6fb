use Rattle.std.proofs.Common.{◌≡◌, drop}
use Rattle.std.specs.List.{list_all}
use Rattle.book_records.specs.declared.Output.{Output}
use Rattle.gov_ids.specs.declared.OutRef.{OutRef}
use Rattle.gov_ids.specs.Orders.{txid_cmp}
use Rattle.maps.specs.Maps.{has_member}
use Rattle.resume_checks.proofs.ids.outputs_use.Given as goal

-- all use one of these if and only if those that are left do
abbrev pub invariant-loop-at : goal.invariant-loop-at
invariant-loop-at l = list_all (λ (o : OutRef × Output). has_member txid_cmp l.used o.0.tx) (drop l.at-index l.outputs) ≡ list_all (λ (o : OutRef × Output). has_member txid_cmp l.used o.0.tx) l.outputs

use Rattle.std.proofs.Common.{◌≡◌, drop}
use Rattle.std.specs.List.{list_all}
use Rattle.gov_actions.specs.declared.action.Proposal.{Proposal}
use Rattle.gov_ids.specs.Orders.{txid_cmp}
use Rattle.maps.specs.Maps.{has_member}
use Rattle.resume_checks.proofs.ids.proposals_use.Given as goal

-- all use one of these if and only if those that are left do
abbrev pub invariant-loop-proposal : goal.invariant-loop-proposal
invariant-loop-proposal l = list_all (λ (p : Proposal). has_member txid_cmp l.used p.id.tx) (drop l.proposal-index l.proposals) ≡ list_all (λ (p : Proposal). has_member txid_cmp l.used p.id.tx) l.proposals

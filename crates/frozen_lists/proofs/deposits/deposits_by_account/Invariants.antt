use Rattle.std.proofs.Common.{◌≡◌, ◌+◌, drop, unwrap_or}
use Rattle.coin_frac.specs.Totals.{total_of}
use Rattle.gov_ids.specs.Orders.{credential_cmp}
use Rattle.gov_ids.specs.Same.{same_credential}
use Rattle.gov_ids.specs.declared.Credential.{Credential}
use Rattle.gov_model.specs.Proposals.{deposits_of}
use Rattle.maps.specs.Maps.{value_at}
use Rattle.frozen_lists.proofs.Sums.{paid}
use Rattle.frozen_lists.proofs.deposits.deposits_by_account.Given as goal

-- what is added so far, with what is left, is all
abbrev pub invariant-loop-proposal : goal.invariant-loop-proposal
invariant-loop-proposal l =
    (total_of l.deposits + deposits_of (drop l.proposal-index l.proposals) ≡ deposits_of l.proposals)
    × ((c : Credential) → unwrap_or (value_at credential_cmp l.deposits c) 0 + paid (λ p. same_credential p.account.cred c) (drop l.proposal-index l.proposals) ≡ paid (λ p. same_credential p.account.cred c) l.proposals)

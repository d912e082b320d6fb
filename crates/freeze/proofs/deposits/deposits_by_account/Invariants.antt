use Rattle.std.proofs.Common.{◌≡◌, ◌+◌, drop, unwrap_or}
use Rattle.coin_frac.specs.Totals.{total_of}
use Rattle.freeze.specs.Deposits.{paid_by}
use Rattle.gov_ids.specs.Orders.{credential_cmp}
use Rattle.gov_ids.specs.declared.Credential.{Credential}
use Rattle.gov_model.specs.Proposals.{deposits_of}
use Rattle.maps.specs.Maps.{value_at}
use Rattle.freeze.proofs.deposits.deposits_by_account.Given as goal

-- what is added so far, with what is left, is all
abbrev pub invariant-loop-i : goal.invariant-loop-i
invariant-loop-i l =
    (total_of l.deposits + deposits_of (drop l.i l.store) ≡ deposits_of l.store)
    × ((c : Credential) → unwrap_or (value_at credential_cmp l.deposits c) 0 + paid_by (drop l.i l.store) c ≡ paid_by l.store c)

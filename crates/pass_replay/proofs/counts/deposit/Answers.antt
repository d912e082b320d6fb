use Rattle.std.proofs.Common.{◌≡◌, ◌+◌, arith, sym, subst}
use Rattle.std.proofs.lemmas.Map.Entries.{sum_by-insert_entry}
use Rattle.std.specs.Cmp.{IsTotalOrder}
use Rattle.coin_frac.specs.Totals.{total_of}
use Rattle.gov_ids.specs.contracts.CredentialOrd.TheImpl as credential_ord
use Rattle.gov_ids.specs.Derived.{credential_is}
use Rattle.gov_ids.proofs.Totals.{credential_total}
use Rattle.maps.specs.Maps.{value_at, with_value}
use Rattle.maps.specs.Words.{amount}
use Rattle.pass_replay.proofs.counts.deposit.Goals as goal

-- the derived order, by which the contract speaks, is that of credentials
total : IsTotalOrder credential_ord.cmp-value.it
total = subst (λ R. IsTotalOrder R) (sym credential_is) credential_total

pub put-requires : goal.put-requires
put-requires c =
    let old = c.args.deposits.now in
    let changed : total_of (with_value credential_ord.cmp-value.it c.args.to c.args.amount old) + amount (λ v. v) (value_at credential_ord.cmp-value.it old c.args.to) ≡ total_of old + c.args.amount =
    sum_by-insert_entry (λ v. v) total old c.args.to c.args.amount c.total.ensures.in_order in
    omega (arith, changed, c.total.ensures.sum)

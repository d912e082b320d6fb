use Rattle.std.proofs.Common.{◌≡◌, ℕ, ◌+◌, List, cond, Option, ap, sym, ◌∙◌, arith}
use Rattle.coin_frac.specs.Totals.{total_of}
use Rattle.frozen_lists.proofs.Adding.{amount_after, amount_within, total_after}
use Rattle.gov_ids.specs.declared.Credential.{Credential}
use Rattle.gov_ids.specs.Derived.{credential_is}
use Rattle.gov_ids.specs.Orders.{credential_cmp}
use Rattle.gov_ids.specs.Same.{same_credential}
use Rattle.gov_ids.proofs.Exacts.{credential_exact}
use Rattle.gov_ids.proofs.Totals.{credential_total}
use Rattle.maps.specs.Maps.{with_value}
use Rattle.maps.specs.Words.{holds}
use Rattle.account_rows.specs.Entries.{amount_of}
use Rattle.account_rows.proofs.stakes.add.Goals as goal

pub overflow_add-stake : goal.overflow_add-stake
overflow_add-stake c = omega (arith, c.stake_of.ensures.value, amount_within credential_cmp c.in-Some.credential c.args.stakes.now, c.requires)

pub put-requires : goal.put-requires
put-requires c =
    let k : Credential = c.in-Some.credential in
    let n : ℕ = c.args.output.now.lovelace in
    let old : List (Credential × ℕ) = c.args.stakes.now in
    let same : _ ≡ total_of old + n = (λ i. total_of (with_value (credential_is i) k (c.stake_of.ensures.value i + n) old)) ∙ total_after credential_cmp credential_total k n old c.stake_of.ensures.in_order in
    record { fits = omega (arith, same, c.requires) }

-- the amounts with this one
with_this : (c : goal.In_ok-put) → c.put.new.self ≡ with_value credential_cmp c.in-Some.credential (amount_of c.args.stakes.now c.in-Some.credential + c.args.output.now.lovelace) c.args.stakes.now
with_this c = c.in_ok-put.ensures.ok ∙ (λ i. with_value (credential_is i) c.in-Some.credential (c.stake_of.ensures.value i + c.args.output.now.lovelace) c.args.stakes.now)

pub returns-clause-each : goal.returns-clause-each
returns-clause-each c = λ q.
    let n : ℕ = c.args.output.now.lovelace in
    ap (λ (es : List (Credential × ℕ)). amount_of es q) (with_this c)
    ∙ amount_after credential_cmp credential_total credential_exact c.in-Some.credential n c.args.stakes.now q
    ∙ ap (λ (s : Option Credential). amount_of c.args.stakes.now q + cond (holds same_credential s q) n 0) (sym c.in-Some.is)

pub returns-clause-total : goal.returns-clause-total
returns-clause-total c =
    omega (
      arith,
      ap (λ (es : List (Credential × ℕ)). total_of es) (with_this c),
      total_after credential_cmp credential_total c.in-Some.credential c.args.output.now.lovelace c.args.stakes.now c.stake_of.ensures.in_order,
    )

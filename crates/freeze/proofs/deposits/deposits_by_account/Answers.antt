use Rattle.std.proofs.Common.{◌≡◌, ℕ, ◌+◌, ◌<◌, List, [], Some, None, cond, drop, length, unwrap_or, ap, sym, ◌∙◌, arith}
use Rattle.std.specs.List.{slice_get}
use Rattle.std.specs.Option.{option_copied}
use Rattle.std.proofs.lemmas.List.{drop_all}
use Rattle.coin_frac.specs.Totals.{total_of}
use Rattle.freeze.specs.Deposits.{paid_by}
use Rattle.freeze.proofs.Adding.{amount_after, amount_at}
use Rattle.freeze.proofs.Sums.{deposits_from, paid_from}
use Rattle.gov_actions.specs.declared.action.Proposal.{Proposal}
use Rattle.gov_ids.specs.declared.Credential.{Credential}
use Rattle.gov_model.specs.Proposals.{deposits_of}
use Rattle.gov_ids.specs.Derived.{credential_is}
use Rattle.gov_ids.specs.Orders.{credential_cmp}
use Rattle.gov_ids.specs.Same.{same_credential}
use Rattle.gov_ids.proofs.Exacts.{credential_exact}
use Rattle.gov_ids.proofs.Totals.{credential_total}
use Rattle.maps.proofs.Lists.{never_past}
use Rattle.maps.specs.Maps.{value_at, with_value}
use Rattle.freeze.proofs.deposits.deposits_by_account.Goals.{in-Some+in_ok-add, in_default}
use Rattle.freeze.proofs.deposits.deposits_by_account.Goals as goal

pub loop-i-init : goal.loop-i-init
loop-i-init c = (
  omega (arith, ap (λ (es : List (Credential × ℕ)). total_of es) c.new-deposits.ensures),
  λ q. omega (arith, ap (λ (es : List (Credential × ℕ)). amount_at credential_cmp es q) c.new-deposits.ensures),
)

pub loop-i-preserved : goal.loop-i-preserved
loop-i-preserved c =
    let store : List Proposal = c.args.store.now in
    let i : ℕ = c.loop-i.i in
    let old : List (Credential × ℕ) = c.loop-i.deposits in
    elim c.match-at.branch [
      | in-Some+in_ok-add w ↦
          let p : Proposal = w.in-Some.p.now in
          let here : slice_get store i ≡ Some p = sym c.at.ensures ∙ ap option_copied w.in-Some.is in
          let k : Credential = w.account.result.cred in
          let n : ℕ = w.deposit.result in
          let is : c.match-at.deposits ≡ with_value credential_cmp k (amount_at credential_cmp old k + n) old =
          w.deposits-is ∙ w.in_ok-add.ensures.amounts ∙ (λ j. with_value (credential_is j) k (unwrap_or (value_at (credential_is j) old k) 0 + n) old) in (
            omega (arith, ap (λ (es : List (Credential × ℕ)). total_of es) w.deposits-is, w.in_ok-add.ensures.total, w.deposit.ensures, deposits_from store i p here, c.loop-i.invariant.0),
            λ q.
                let amount : amount_at credential_cmp c.match-at.deposits q ≡ amount_at credential_cmp old q + cond (same_credential k q) n 0 =
                ap (λ (es : List (Credential × ℕ)). amount_at credential_cmp es q) is ∙ amount_after credential_cmp credential_total credential_exact k n old q in
                let same : cond (same_credential k q) n 0 ≡ cond (same_credential p.account.cred q) p.deposit 0 = λ j. cond (same_credential ((w.account.ensures j).cred) q) (w.deposit.ensures j) 0 in
                omega (arith, amount, same, paid_from store i p here (λ (x : Proposal). same_credential x.account.cred q), c.loop-i.invariant.1 q),
          )
      | in_default w ↦
          let none : slice_get store i ≡ None = sym c.at.ensures ∙ ap option_copied w.in_default.is in
          let within : i < length store = omega (arith, c.loop-i-test.true, c.len-i-end.ensures.count) in
          absurd (never_past store i within none)
    ]

pub add-requires : goal.add-requires
add-requires c =
    let store : List Proposal = c.args.store.now in
    let p : Proposal = c.in-Some.p.now in
    let here : slice_get store c.loop-i.i ≡ Some p = sym c.at.ensures ∙ ap option_copied c.in-Some.is in
    record { fits = omega (arith, c.deposit.ensures, deposits_from store c.loop-i.i p here, c.loop-i.invariant.0, c.deposits-all.ensures, c.deposits-all.type_inv) }

none_left : (c : goal.After-loop-i) → drop c.loop-i.i c.args.store.now ≡ []
none_left c = drop_all c.loop-i.i c.args.store.now (omega (arith, c.loop-i-test.false, c.len-i-end.ensures.count))

pub returns-clause-amounts : goal.returns-clause-amounts
returns-clause-amounts c = λ q. omega (arith, ap (λ (ps : List Proposal). paid_by ps q) (none_left c), c.loop-i.invariant.1 q)

pub returns-clause-total : goal.returns-clause-total
returns-clause-total c = omega (arith, ap deposits_of (none_left c), c.loop-i.invariant.0)

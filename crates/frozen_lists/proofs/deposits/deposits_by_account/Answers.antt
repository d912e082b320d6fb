use Rattle.std.proofs.Common.{◌≡◌, ℕ, ◌+◌, List, [], cond, drop, unwrap_or, ap, sym, ◌∙◌, arith}
use Rattle.std.proofs.lemmas.List.{drop_all}
use Rattle.coin_frac.specs.Totals.{total_of}
use Rattle.frozen_lists.proofs.Adding.{amount_after, amount_at}
use Rattle.frozen_lists.proofs.Sums.{deposits_from, paid, paid_from}
use Rattle.gov_actions.specs.declared.action.Proposal.{Proposal}
use Rattle.gov_ids.specs.declared.Credential.{Credential}
use Rattle.gov_ids.specs.Derived.{credential_is}
use Rattle.gov_ids.specs.Orders.{credential_cmp}
use Rattle.gov_ids.specs.Same.{same_credential}
use Rattle.gov_ids.proofs.Exacts.{credential_exact}
use Rattle.gov_ids.proofs.Totals.{credential_total}
use Rattle.gov_model.specs.Proposals.{deposits_of}
use Rattle.gov_model.specs.Snapshot.{Snapshot}
use Rattle.maps.specs.Maps.{value_at, with_value}
use Rattle.frozen_lists.proofs.deposits.deposits_by_account.Goals as goal

pub loop-proposal-init : goal.loop-proposal-init
loop-proposal-init c = (
  omega (arith, ap (λ (es : List (Credential × ℕ)). total_of es) c.new-deposits.ensures),
  λ q. omega (arith, ap (λ (es : List (Credential × ℕ)). amount_at credential_cmp es q) c.new-deposits.ensures),
)

pub loop-proposal-preserved : goal.loop-proposal-preserved
loop-proposal-preserved c =
    let ps : List Proposal = c.args.proposals.now in
    let i : ℕ = c.loop-proposal.proposal-index in
    let p : Proposal = c.proposal-item.result in
    let k : Credential = p.account.cred in
    let old : List (Credential × ℕ) = c.loop-proposal.deposits in
    let new : List (Credential × ℕ) = c.add.new.deposits in
    let is : new ≡ with_value credential_cmp k (amount_at credential_cmp old k + p.deposit) old =
    c.in_ok-add.ensures.amounts ∙ (λ j. with_value (credential_is j) k (unwrap_or (value_at (credential_is j) old k) 0 + p.deposit) old) in (
      omega (arith, c.in_ok-add.ensures.total, deposits_from ps i p c.loop-proposal-test.true c.proposal-item.is, c.loop-proposal.invariant.0),
      λ q.
          let amount : amount_at credential_cmp new q ≡ amount_at credential_cmp old q + cond (same_credential k q) p.deposit 0 =
          ap (λ (es : List (Credential × ℕ)). amount_at credential_cmp es q) is ∙ amount_after credential_cmp credential_total credential_exact k p.deposit old q in
          omega (arith, amount, paid_from ps i p c.loop-proposal-test.true c.proposal-item.is (λ (x : Proposal). same_credential x.account.cred q), c.loop-proposal.invariant.1 q),
    )

pub add-requires : goal.add-requires
add-requires c =
    record { fits = omega (arith, deposits_from c.args.proposals.now c.loop-proposal.proposal-index c.proposal-item.result c.loop-proposal-test.true c.proposal-item.is, c.loop-proposal.invariant.0, c.requires) }

none_left : (c : goal.After-loop-proposal) → drop c.loop-proposal.proposal-index c.args.proposals.now ≡ []
none_left c = drop_all c.loop-proposal.proposal-index c.args.proposals.now c.loop-proposal-test.false

pub returns-clause-amounts : goal.returns-clause-amounts
returns-clause-amounts c = λ s q same.
    omega (
      arith,
      ap (λ (ps : List Proposal). paid (λ (x : Proposal). same_credential x.account.cred q) ps) (none_left c),
      ap (λ (ps : List Proposal). paid (λ (x : Proposal). same_credential x.account.cred q) ps) same,
      c.loop-proposal.invariant.1 q,
    )

pub returns-clause-total : goal.returns-clause-total
returns-clause-total c = omega (arith, ap deposits_of (none_left c), c.loop-proposal.invariant.0)

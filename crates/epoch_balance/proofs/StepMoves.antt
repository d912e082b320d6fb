-- Each step of a boundary moves the pots by its flows.
use Rattle.std.proofs.Common.{◌≡◌, ℕ, ◌+◌, ◌-◌, List, [], ◌∷◌, Bool, true, false, cond, Option, Some, None, is_some, map, sum_by, refl, ap, ◌∙◌, arith}
use Rattle.std.specs.Option.{option_map, unwrap_or}
use Rattle.maps.specs.Maps.{value_at, sum_values, changed_where}
use Rattle.maps.specs.Words.{some_and}
use Rattle.maps.proofs.Credits.{sum_values-entries, sum-parted}
use Rattle.maps.proofs.Kept.{IsMap-changed_where}
use Rattle.maps.proofs.Lookups.{value_at-changed_where}
use Rattle.gov_ids.specs.declared.Credential.{Credential}
use Rattle.gov_ids.specs.declared.PoolId.{PoolId}
use Rattle.gov_ids.specs.Orders.{credential_cmp}
use Rattle.gov_ids.proofs.Exacts.{credential_exact}
use Rattle.gov_ids.proofs.Totals.{credential_total}
use Rattle.book_records.specs.declared.Registered.{Registered}
use Rattle.book_records.specs.Pools.{retires_at, staying_at}
use Rattle.book_records.specs.declared.pool.Pool.{Pool}
use Rattle.ledger_model.specs.of_tx_records.declared.record.Rewards.{Rewards}
use Rattle.ledger_model.specs.Ledger.{Ledger, is_account}
use Rattle.ledger_model.specs.Supply.{pots_of}
use Rattle.ledger_model.specs.Flows.{Pot, outputs, deposits, rewards, fees, donations, treasury, reserves, hand, Flow, End, source, sink, flow, same_pot, sum_at}
use Rattle.ledger_model.specs.Moves.{IsMovedBy, held_in}
use Rattle.ledger_model.proofs.SameSums.{sum_by-map, sum_values-each_same, sum_values-changed_same}
use Rattle.ledger_model.proofs.FlowSums.{is_end, sum-cons, sum-append}
use Rattle.run_model.specs.Boundary.{claimed, reaped_pools, is_reaped, pool_refunds, without_pool, treasury_gains, update_applied, withdrawals_paid}
use Rattle.run_model.specs.BoundaryFlows.{payment, flow_of_target, flows_of_targets, flows_of_update}
use Rattle.run_model.specs.Laws.{IsCoveredUpdate}
use Rattle.epoch_balance.specs.StepLaws.{HasAccounts, RewardsBalance, SnapshotsBalance, TermsBalance, PoolsBalance, EnactmentBalances, PaymentsBalance, DonationsBalance, MembersBalance, DormancyBalances, FreezeBalances}
use Rattle.epoch_balance.proofs.Payments.{amount_of, parted-cons, payments-from, paid_into, rewards-credited, deposits-credited, refunds_move}

-- 1: the update takes from the reserves and the fees, gives to the treasury, and pays the rest
module _ (l : Ledger) (u : Rewards) (m : HasAccounts l) (c : IsCoveredUpdate l u) where
  abbrev taken : Ledger
  taken = treasury_gains u.to_treasury (record l { reserves = l.reserves - u.from_reserves; fees = l.fees - u.from_fees })

  abbrev paid : List Flow
  paid = map (payment hand l) u.rewards

  update-sum : (end : End) (p : Pot) → sum_at end p (flows_of_update l (Some u))
      ≡ cond (is_end end p reserves hand) u.from_reserves 0 + cond (is_end end p fees hand) u.from_fees 0
      + cond (is_end end p hand treasury) u.to_treasury 0 + sum_at end p paid
  update-sum end p = omega (
    arith,
    sum-cons end p (flow reserves hand u.from_reserves) (flow fees hand u.from_fees ∷ flow hand treasury u.to_treasury ∷ paid),
    sum-cons end p (flow fees hand u.from_fees) (flow hand treasury u.to_treasury ∷ paid),
    sum-cons end p (flow hand treasury u.to_treasury) paid,
  )

  update_moves : IsMovedBy (flows_of_update l (Some u)) (pots_of l) (pots_of (update_applied (Some u) l))
  update_moves p = elim p as (λ p. held_in p (pots_of (update_applied (Some u) l)) + sum_at source p (flows_of_update l (Some u)) ≡ held_in p (pots_of l) + sum_at sink p (flows_of_update l (Some u))) [
    | outputs ↦ omega (arith, update-sum source outputs, update-sum sink outputs, payments-from hand l u.rewards outputs, paid_into taken u.rewards hand m outputs)
    | deposits ↦ omega (arith, update-sum source deposits, update-sum sink deposits, payments-from hand l u.rewards deposits, paid_into taken u.rewards hand m deposits)
    | rewards ↦ omega (arith, update-sum source rewards, update-sum sink rewards, payments-from hand l u.rewards rewards, paid_into taken u.rewards hand m rewards)
    | fees ↦ omega (arith, update-sum source fees, update-sum sink fees, payments-from hand l u.rewards fees, paid_into taken u.rewards hand m fees, c.fees_cover)
    | donations ↦ omega (arith, update-sum source donations, update-sum sink donations, payments-from hand l u.rewards donations, paid_into taken u.rewards hand m donations)
    | treasury ↦ omega (arith, update-sum source treasury, update-sum sink treasury, payments-from hand l u.rewards treasury, paid_into taken u.rewards hand m treasury)
    | reserves ↦ omega (arith, update-sum source reserves, update-sum sink reserves, payments-from hand l u.rewards reserves, paid_into taken u.rewards hand m reserves, c.reserves_cover)
    | hand ↦ omega (arith, update-sum source hand, update-sum sink hand, payments-from hand l u.rewards hand, paid_into taken u.rewards hand m hand, c.balanced)
  ]

rewards_by : (o : Option Rewards) (l : Ledger) → HasAccounts l → ((u : Rewards) → o ≡ Some u → IsCoveredUpdate l u)
    → IsMovedBy (flows_of_update l o) (pots_of l) (pots_of (update_applied o l))
rewards_by None l m c = λ p. refl
rewards_by (Some u) l m c = update_moves l u m (c u refl)

pub rewards_balance : RewardsBalance
rewards_balance w m c = rewards_by w.pending w.ledger m c

pub snapshots_balance : SnapshotsBalance
snapshots_balance w p = refl

pub enactment_balances : EnactmentBalances
enactment_balances w p = refl

pub members_balance : MembersBalance
members_balance l p = refl

pub dormancy_balances : DormancyBalances
dormancy_balances l p = refl

pub freeze_balances : FreezeBalances
freeze_balances w p = refl

pub donations_balance : DonationsBalance
donations_balance l outputs = refl
donations_balance l deposits = refl
donations_balance l rewards = refl
donations_balance l fees = refl
donations_balance l donations = omega arith
donations_balance l treasury = omega arith
donations_balance l reserves = refl
donations_balance l hand = refl

-- 3: each pool keeps its deposit
pub terms_balance : TermsBalance
terms_balance l deposits = omega (arith, sum_values-each_same (λ (p : Pool). p.deposit) (λ k (t : Pool). record t { terms = unwrap_or t.future t.terms; future = None }) (λ k x. refl) l.pools)
terms_balance l _ = refl

some_same : {A : Type 0} (o : Option A) (f : A → A) → is_some (option_map f o) ≡ is_some o
some_same None f = refl
some_same (Some x) f = refl

module _ (l : Ledger) where
  -- the ledger without the reaped pools, before their deposits are paid out
  abbrev left : Ledger
  left = record l {
    pools = staying_at (l.epoch + 1) l.pools;
    accounts = changed_where (λ c (r : Registered). some_and (is_reaped l) r.pool) without_pool l.accounts;
  }

  abbrev pool_deposit : PoolId × Pool → ℕ
  pool_deposit e = e.1.deposit

  same_account : (c : Credential) → is_account left c ≡ is_account l c
  same_account c =
      ap (λ (o : Option Registered). is_some o) (value_at-changed_where credential_total credential_exact (λ c (r : Registered). some_and (is_reaped l) r.pool) without_pool l.accounts c)
      ∙ some_same (value_at credential_cmp l.accounts c) _

  same_of : (f : Registered → ℕ) → ((r : Registered) → f (without_pool r) ≡ f r) → sum_values f left.accounts ≡ sum_values f l.accounts
  same_of f s = sum_values-changed_same f (λ c (r : Registered). some_and (is_reaped l) r.pool) without_pool s l.accounts

  pools_parted : sum_by amount_of (pool_refunds l) + sum_values (λ (p : Pool). p.deposit) left.pools ≡ sum_values (λ (p : Pool). p.deposit) l.pools
  pools_parted =
      omega (
        arith,
        sum_by-map amount_of (λ (e : PoolId × Pool). (e.1.terms.account.cred, e.1.deposit)) (reaped_pools l),
        sum-parted pool_deposit (λ e. retires_at (l.epoch + 1) e.1) l.pools,
        sum_values-entries (λ (p : Pool). p.deposit) left.pools,
        sum_values-entries (λ (p : Pool). p.deposit) l.pools,
      )

  -- it lacks their deposits
  left_pots : (p : Pot) → held_in p (pots_of left) + cond (same_pot deposits p) (sum_by amount_of (pool_refunds l)) 0 ≡ held_in p (pots_of l)
  left_pots outputs = omega arith
  left_pots deposits = omega (arith, same_of (λ (r : Registered). r.deposit) (λ r. refl), pools_parted)
  left_pots rewards = omega (arith, same_of (λ (r : Registered). r.rewards) (λ r. refl))
  left_pots fees = omega arith
  left_pots donations = omega arith
  left_pots treasury = omega arith
  left_pots reserves = omega arith
  left_pots hand = omega arith

pub pools_balance : PoolsBalance
pools_balance l m =
    refunds_move l (left l) (pool_refunds l) (IsMap-changed_where credential_cmp (λ c (r : Registered). some_and (is_reaped l) r.pool) without_pool l.accounts m) (same_account l) (left_pots l)

-- 5: targets
target_sum : (end : End) (l : Ledger) (q : Credential × ℕ) (p : Pot) → sum_at end p (flow_of_target l q) ≡ cond (is_account l q.0) (cond (is_end end p treasury rewards) q.1 0) 0
target_sum end l q p = elim (is_account l q.0) as (λ b. sum_at end p (cond b (flow treasury rewards q.1 ∷ []) []) ≡ cond b (cond (is_end end p treasury rewards) q.1 0) 0) [
  | true ↦ omega (arith, sum-cons end p (flow treasury rewards q.1) [])
  | false ↦ refl
]

join : (b c : Bool) (n rest : ℕ) → cond b (cond c n 0) 0 + cond c rest 0 ≡ cond c (cond b n 0 + rest) 0
join true true n rest = omega arith
join true false n rest = refl
join false true n rest = omega arith
join false false n rest = refl

targets_sum : (end : End) (l : Ledger) (ps : List (Credential × ℕ)) (p : Pot) → sum_at end p (flows_of_targets l ps) ≡ cond (is_end end p treasury rewards) (claimed l ps) 0
targets_sum end l [] p = none (is_end end p treasury rewards)
  where
    none : (b : Bool) → sum_at end p [] ≡ cond b 0 0
    none true = refl
    none false = refl
targets_sum end l (q ∷ ps) p =
    omega (
      arith,
      sum-append end p (flow_of_target l q) (flows_of_targets l ps),
      target_sum end l q p,
      targets_sum end l ps p,
      join (is_account l q.0) (is_end end p treasury rewards) q.1 (claimed l ps),
      ap (λ n. cond (is_end end p treasury rewards) n 0) (parted-cons (λ x. is_account l x.0) q ps),
    )

pub payments_balance : PaymentsBalance
payments_balance l ps m c p = elim p as (λ p. held_in p (pots_of (withdrawals_paid ps l)) + sum_at source p (flows_of_targets l ps) ≡ held_in p (pots_of l) + sum_at sink p (flows_of_targets l ps)) [
  | outputs ↦ omega (arith, targets_sum source l ps outputs, targets_sum sink l ps outputs)
  | deposits ↦ omega (arith, targets_sum source l ps deposits, targets_sum sink l ps deposits, deposits-credited l ps)
  | rewards ↦ omega (arith, targets_sum source l ps rewards, targets_sum sink l ps rewards, rewards-credited l ps m)
  | fees ↦ omega (arith, targets_sum source l ps fees, targets_sum sink l ps fees)
  | donations ↦ omega (arith, targets_sum source l ps donations, targets_sum sink l ps donations)
  | treasury ↦ omega (arith, targets_sum source l ps treasury, targets_sum sink l ps treasury, c)
  | reserves ↦ omega (arith, targets_sum source l ps reserves, targets_sum sink l ps reserves)
  | hand ↦ omega (arith, targets_sum source l ps hand, targets_sum sink l ps hand)
]

-- The treasury covers the enacted withdrawals.
use Rattle.std.proofs.Common.{◌≡◌, ℕ, ◌+◌, ◌-◌, ◌≤◌, List, [], ◌∷◌, ◌++◌, true, false, cond, Option, Some, None, flat_map, sum_by, refl, ap, arith}
use Rattle.std.proofs.lemmas.Bool.{leb-true, and_parts}
use Rattle.std.proofs.lemmas.List.Sums.{sum_by-append, sum_by-cons}
use Rattle.maps.specs.Words.{chosen_after}
use Rattle.gov_ids.specs.declared.Account.{Account}
use Rattle.gov_ids.specs.declared.ActionId.{ActionId}
use Rattle.gov_actions.specs.declared.action.Action.{Action}
use Rattle.gov_actions.specs.declared.action.Action.TheVariants.{NoConfidence, UpdateCommittee, NewConstitution, HardForkInitiation, ParameterChange, TreasuryWithdrawals, Info}
use Rattle.gov_actions.specs.declared.action.Proposal.{Proposal}
use Rattle.gov_model.specs.Snapshot.{Snapshot}
use Rattle.gov_model.specs.Enacted.{enacted_after, withdrawn_by}
use Rattle.gov_model.specs.Ready.{is_ready, is_covered}
use Rattle.gov_model.specs.Ratified.{order_of}
use Rattle.gov_model.proofs.OneList.{ratified_are_chosen}
use Rattle.ledger_model.specs.of_tx_records.declared.record.Rewards.{Rewards}
use Rattle.ledger_model.specs.Ledger.{Ledger}
use Rattle.ledger_model.proofs.SameSums.{sum_by-map}
use Rattle.run_model.specs.Boundary.{payments_due, targets_of, enacted_targets, enacted_proposals, after_enactment, after_rewards, update_applied}
use Rattle.epoch_balance.specs.BoundaryLaws.{PaymentsAreCovered}
use Rattle.epoch_balance.proofs.Payments.{amount_of, all_paid}

abbrev taken_by : Proposal → ℕ
taken_by p = withdrawn_by p.action

-- what is ready is covered
ready_is_covered : (f : Snapshot) (es : List Proposal) (a : Proposal) → is_ready f es a ≡ true → is_covered (enacted_after f es) a.action ≡ true
ready_is_covered f es a h = (and_parts _ _ (and_parts _ _ (and_parts _ _ (and_parts _ _ h).0).0).0).1

treasury_left : (f : Snapshot) (es : List Proposal) → (enacted_after f es).treasury ≡ f.start.treasury - sum_by taken_by es
treasury_left f es = ap (λ (n : ℕ). f.start.treasury - n) (sum_by-map (λ (a : ActionId × Action). withdrawn_by a.1) (λ (a : Proposal). (a.id, a.action)) es)

-- what is chosen after es takes no more than the treasury holds, if es do not
chosen_by : (f : Snapshot) (es xs : List Proposal) → sum_by taken_by es ≤ f.start.treasury → sum_by taken_by es + sum_by taken_by (chosen_after (is_ready f) es xs) ≤ f.start.treasury
chosen_by f es [] h = omega arith
chosen_by f es (x ∷ xs) h =
    elim (is_ready f es x) as (λ b. is_ready f es x ≡ b → sum_by taken_by es + sum_by taken_by (cond b (x ∷ chosen_after (is_ready f) (es ++ x ∷ []) xs) (chosen_after (is_ready f) es xs)) ≤ f.start.treasury) [
      | true ↦ λ e.
          let covers : taken_by x ≤ (enacted_after f es).treasury = leb-true (taken_by x) (enacted_after f es).treasury (ready_is_covered f es x e) in
          let more : sum_by taken_by (es ++ x ∷ []) ≡ sum_by taken_by es + sum_by taken_by (x ∷ []) = sum_by-append taken_by es (x ∷ []) in
          let one : sum_by taken_by (x ∷ []) ≡ taken_by x + sum_by taken_by [] = sum_by-cons taken_by x [] in
          let rest = chosen_by f (es ++ x ∷ []) xs (omega (arith, covers, more, one, treasury_left f es, h)) in
          omega (arith, rest, more, one, sum_by-cons taken_by x (chosen_after (is_ready f) (es ++ x ∷ []) xs))
      | false ↦ λ e. chosen_by f es xs h
    ] refl

-- the targets of actions add up to what these withdraw
abbrev target_amount : Account × ℕ → ℕ
target_amount t = t.1

targets_sum : (a : Action) → sum_by target_amount (targets_of a) ≡ withdrawn_by a
targets_sum (NoConfidence previous) = refl
targets_sum (UpdateCommittee previous remove add threshold) = refl
targets_sum (NewConstitution previous document script) = refl
targets_sum (HardForkInitiation previous version) = refl
targets_sum (ParameterChange previous update policy) = refl
targets_sum (TreasuryWithdrawals targets policy) = refl
targets_sum Info = refl

all_targets_sum : (ps : List Proposal) → sum_by target_amount (flat_map (λ (p : Proposal). targets_of p.action) ps) ≡ sum_by taken_by ps
all_targets_sum [] = refl
all_targets_sum (p ∷ ps) =
    omega (
      arith,
      sum_by-append target_amount (targets_of p.action) (flat_map (λ (p : Proposal). targets_of p.action) ps),
      targets_sum p.action,
      all_targets_sum ps,
      sum_by-cons taken_by p ps,
    )

-- the pending update does not take from the treasury
gained_by : (o : Option Rewards) (l : Ledger) → l.state.treasury ≤ (update_applied o l).state.treasury
gained_by None l = omega arith
gained_by (Some u) l = omega arith

pub payments_are_covered : PaymentsAreCovered
payments_are_covered w own h =
    let enacted : enacted_proposals w ≡ chosen_after (is_ready w.frozen) [] (order_of w.frozen) = ratified_are_chosen w.frozen own in
    let bound : sum_by taken_by [] + sum_by taken_by (chosen_after (is_ready w.frozen) [] (order_of w.frozen)) ≤ w.frozen.start.treasury = chosen_by w.frozen [] (order_of w.frozen) (omega arith) in
    let due : sum_by amount_of (payments_due w) ≡ sum_by target_amount (enacted_targets w) = sum_by-map amount_of (λ (t : Account × ℕ). (t.0.cred, t.1)) (enacted_targets w) in
    let all : sum_by target_amount (enacted_targets w) ≡ sum_by taken_by (enacted_proposals w) = all_targets_sum (enacted_proposals w) in
    let gained : w.ledger.state.treasury ≤ (after_rewards w).ledger.state.treasury = gained_by w.pending w.ledger in
    omega (arith, all_paid (after_enactment w).ledger (payments_due w), due, all, ap (λ (ps : List Proposal). sum_by taken_by ps) enacted, bound, gained, h)

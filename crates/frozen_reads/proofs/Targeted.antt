-- The targets of withdrawals: all are of one priority, so that their order is that of submission.
use Rattle.std.proofs.Common.{◌≡◌, ℕ, ◌+◌, ◌<◌, ◌==◌, List, [], ◌∷◌, ◌++◌, Bool, true, false, cond, drop, filter, flat_map, get_or, length, refl, ap, sym, ◌∙◌, add-one, append_assoc}
use Rattle.std.proofs.Math.Seq.{drop-cons}
use Rattle.std.proofs.lemmas.Bool.{eqb-true}
use Rattle.std.proofs.lemmas.Grind.{flat_map-append}
use Rattle.std.proofs.lemmas.List.{append-nil}
use Rattle.std.proofs.lemmas.List.Elements.{filter-append}
use Rattle.gov_actions.specs.declared.action.Action.{Action}
use Rattle.gov_actions.specs.declared.action.Action.TheVariants.{NoConfidence, UpdateCommittee, NewConstitution, HardForkInitiation, ParameterChange, TreasuryWithdrawals, Info}
use Rattle.gov_actions.specs.declared.action.Proposal.{Proposal}
use Rattle.gov_actions.specs.Kinds.{in_order_of_priority, priority_of}
use Rattle.gov_ids.specs.declared.Account.{Account}
use Rattle.gov_ids.specs.declared.ActionId.{ActionId}
use Rattle.gov_ids.specs.Orders.{action_id_cmp}
use Rattle.gov_ids.proofs.Totals.{action_id_total}
use Rattle.gov_model.specs.Ratified.{is_one_of}
use Rattle.maps.proofs.Sets.{has_member-in_order}
use Rattle.maps.specs.Maps.{in_order}
use Rattle.run_model.specs.Boundary.{targets_of}
use Rattle.frozen_reads.specs.Targets.{targets_among}

-- the targets of a proposal
abbrev targets : Proposal → List (Account × ℕ)
targets p = targets_of p.action

-- a set of ids tells what the list of them tells
pub among_set : (ids : List ActionId) (ps : List Proposal) → targets_among (in_order action_id_cmp ids) ps ≡ targets_among ids ps
among_set ids ps = λ i. flat_map targets (filter (λ (a : Proposal). has_member-in_order action_id_total ids a.id i) ps)

-- only a withdrawal, whose priority is 5, has targets
no_targets : (a : Action) (n : ℕ) → (n == 5) ≡ false → (priority_of a == n) ≡ true → targets_of a ≡ []
no_targets (NoConfidence previous) n other e = refl
no_targets (UpdateCommittee previous remove add threshold) n other e = refl
no_targets (NewConstitution previous document script) n other e = refl
no_targets (HardForkInitiation previous version) n other e = refl
no_targets (ParameterChange previous update policy) n other e = refl
no_targets (TreasuryWithdrawals targets policy) n other e =
    let same : 5 ≡ n = eqb-true 5 n e in
    let never : true ≡ false = ap (λ (k : ℕ). k == 5) same ∙ other in cc
no_targets Info n other e = refl

module _ (ids : List ActionId) where
  abbrev found : List Proposal → List (Account × ℕ)
  found ps = targets_among ids ps

  -- those of one more
  pub found-cons : (p : Proposal) (ps : List Proposal) → found (p ∷ ps) ≡ cond (is_one_of ids p) (targets p) [] ++ found ps
  found-cons p ps = elim (is_one_of ids p) as (λ b. flat_map targets (cond b (p ∷ filter (is_one_of ids) ps) (filter (is_one_of ids) ps)) ≡ cond b (targets p) [] ++ found ps) [
    | true ↦ refl
    | false ↦ refl
  ]

  found-append : (xs ys : List Proposal) → found (xs ++ ys) ≡ found xs ++ found ys
  found-append xs ys = ap (λ (l : List Proposal). flat_map targets l) (filter-append (is_one_of ids) xs ys) ∙ flat_map-append targets (filter (is_one_of ids) xs) (filter (is_one_of ids) ys)

  abbrev of_priority : ℕ → List Proposal → List Proposal
  of_priority n ps = filter (λ (p : Proposal). priority_of p.action == n) ps

  nothing_from : (b : Bool) (ts : List (Account × ℕ)) → ts ≡ [] → cond b ts [] ≡ []
  nothing_from true ts e = e
  nothing_from false ts e = refl

  -- none of another priority
  none_of : (n : ℕ) → (n == 5) ≡ false → (ps : List Proposal) → found (of_priority n ps) ≡ []
  none_of n other [] = refl
  none_of n other (p ∷ ps) = elim (priority_of p.action == n) as (λ b. (priority_of p.action == n) ≡ b → found (cond b (p ∷ of_priority n ps) (of_priority n ps)) ≡ []) [
    | true ↦ λ e. found-cons p (of_priority n ps) ∙ (λ i. nothing_from (is_one_of ids p) (targets p) (no_targets p.action n other e) i ++ none_of n other ps i)
    | false ↦ λ e. none_of n other ps
  ] refl

  other_targets : (a : Action) → (priority_of a == 5) ≡ false → targets_of a ≡ []
  other_targets (NoConfidence previous) e = refl
  other_targets (UpdateCommittee previous remove add threshold) e = refl
  other_targets (NewConstitution previous document script) e = refl
  other_targets (HardForkInitiation previous version) e = refl
  other_targets (ParameterChange previous update policy) e = refl
  other_targets (TreasuryWithdrawals targets policy) e = let never : true ≡ false = e in cc
  other_targets Info e = refl

  -- and all of this one
  all_of : (ps : List Proposal) → found (of_priority 5 ps) ≡ found ps
  all_of [] = refl
  all_of (p ∷ ps) = elim (priority_of p.action == 5) as (λ b. (priority_of p.action == 5) ≡ b → found (cond b (p ∷ of_priority 5 ps) (of_priority 5 ps)) ≡ found (p ∷ ps)) [
    | true ↦ λ e. found-cons p (of_priority 5 ps) ∙ ap (λ (l : List (Account × ℕ)). cond (is_one_of ids p) (targets p) [] ++ l) (all_of ps) ∙ sym (found-cons p ps)
    | false ↦ λ e. all_of ps ∙ sym (found-cons p ps ∙ ap (λ (l : List (Account × ℕ)). l ++ found ps) (nothing_from (is_one_of ids p) (targets p) (other_targets p.action e)))
  ] refl

  by_priority : (ps : List Proposal) (ns : List ℕ) → found (flat_map (λ n. of_priority n ps) ns) ≡ flat_map (λ n. found (of_priority n ps)) ns
  by_priority ps [] = refl
  by_priority ps (n ∷ ns) = found-append (of_priority n ps) (flat_map (λ n. of_priority n ps) ns) ∙ ap (λ (l : List (Account × ℕ)). found (of_priority n ps) ++ l) (by_priority ps ns)

  -- in order of priority they are in order of submission
  pub found_in_order : (ps : List Proposal) → found ps ≡ found (in_order_of_priority ps)
  found_in_order ps =
      sym (
      by_priority ps (0 ∷ 1 ∷ 2 ∷ 3 ∷ 4 ∷ 5 ∷ 6 ∷ [])
      ∙ (λ i. none_of 0 refl ps i ++ (none_of 1 refl ps i ++ (none_of 2 refl ps i ++ (none_of 3 refl ps i ++ (none_of 4 refl ps i ++ (all_of ps i ++ (none_of 6 refl ps i ++ [])))))))
      ∙ append-nil (found ps)
      )

  -- with those of the next proposal, those so far and those of the rest are the same
  pub next_found : (ts : List (Account × ℕ)) (ps : List Proposal) (i : ℕ) (p : Proposal) → i < length ps → p ≡ get_or ps i p → (b : Bool) → is_one_of ids p ≡ b
      → (ts ++ cond b (targets p) []) ++ found (drop (i + 1) ps) ≡ ts ++ found (drop i ps)
  next_found ts ps i p h is b e =
      let cut : drop i ps ≡ p ∷ drop (i + 1) ps = drop-cons ps i p h ∙ (λ j. sym is j ∷ drop (sym (add-one i) j) ps) in
      append_assoc ts (cond b (targets p) []) (found (drop (i + 1) ps))
      ∙ ap (λ (c : Bool). ts ++ (cond c (targets p) [] ++ found (drop (i + 1) ps))) (sym e)
      ∙ ap (λ (l : List (Account × ℕ)). ts ++ l) (sym (found-cons p (drop (i + 1) ps)))
      ∙ ap (λ (l : List Proposal). ts ++ found l) (sym cut)

-- The frozen DReps where none has voted, and once all have voted who vote.
use Rattle.std.proofs.Common.{◌≡◌, ℕ, ◌+◌, ◌≤◌, List, [], ◌∷◌, Bool, true, false, cond, Option, Some, None, filter, if◌then◌else◌, map, nat_le, option_map, sum_by, unwrap_or, refl, ap, sym, ◌∙◌, arith}
use Rattle.std.specs.declared.cmp.Ordering.TheVariants.{Less}
use Rattle.std.specs.Ordering.{eq_by_cmp}
use Rattle.std.specs.List.{AllByRecursion}
use Rattle.std.specs.List.Sorted.{IsStrictlySortedBy}
use Rattle.std.specs.Map.{keys_of, values_of}
use Rattle.std.proofs.lemmas.List.Sums.{sum_by-cons, sum_by-le-sum_by}
use Rattle.gov_ids.specs.declared.Credential.{Credential}
use Rattle.gov_ids.specs.declared.PoolId.{PoolId}
use Rattle.gov_ids.specs.declared.Drep.TheVariants as drep
use Rattle.gov_ids.specs.declared.Voter.{Voter}
use Rattle.gov_ids.specs.declared.Voter.TheVariants as voter
use Rattle.gov_ids.specs.Orders.{credential_cmp, voter_cmp}
use Rattle.gov_ids.proofs.Totals.{drep_total}
use Rattle.gov_actions.specs.declared.action.Proposal.{Proposal}
use Rattle.gov_actions.specs.declared.action.Vote.{Vote}
use Rattle.gov_actions.specs.declared.action.Vote.TheVariants.{Yes, No, Abstain}
use Rattle.gov_model.specs.Sides.{vote_of}
use Rattle.maps.specs.Maps.{IsMap, value_at}
use Rattle.maps.proofs.Placed.{value_at_tied}
use Rattle.drep_pulser.specs.Count.{Ended, sum_for}
use Rattle.snapshots.specs.declared.frozen.Frozen.{Frozen}
use Rattle.tally.specs.Adding.{total_of, with_sides, yes_of}
use Rattle.tally.specs.Silent.{Standing, count_of_standing, drep_weight, silent_drep, silent_dreps}
use Rattle.tally.specs.Stakes.{drep_stakes}
use Rattle.tally.proofs.Counting.{count_is, counted}
use Rattle.tally.proofs.DrepSides.{drep_side, sides_of_dreps}
use Rattle.tally.proofs.Votes.{cast, weight_of}

module _ (f : Frozen) (c : Ended) where
  -- these DReps
  abbrev those : List (Credential × ℕ) → Standing
  those dreps = map (silent_drep f c) dreps

  above : (d : Credential) (dreps : List (Credential × ℕ)) → AllByRecursion (λ q. credential_cmp d q ≡ Less) (keys_of dreps) → AllByRecursion (λ q. voter_cmp (voter.Drep d) q ≡ Less) (keys_of (those dreps))
  above d [] h = tt
  above d (e ∷ dreps) h = (h.0, above d dreps h.1)

  pub ordered_dreps : (dreps : List (Credential × ℕ)) → IsMap credential_cmp dreps → IsMap voter_cmp (those dreps)
  unfolding IsStrictlySortedBy
  ordered_dreps [] h = tt
  ordered_dreps (d ∷ dreps) h = (above d.0 dreps h.0, ordered_dreps dreps h.1)

  -- what ties has the same stake
  same_weight : (d : Credential) (e : Credential × ℕ) → eq_by_cmp credential_cmp d e.0 ≡ true → drep_weight f c (d, e.1) ≡ drep_weight f c e
  same_weight d e t =
      ap (λ (o : Option ℕ). if nat_le f.epoch e.1 then unwrap_or o 0 else 0) (sym (value_at_tied drep_total (drep.Registered d) (drep.Registered e.0) c.sums t))

  here : (b : Bool) (d : Credential) (e : Credential × ℕ) (o : Option (ℕ × Vote)) (p : Option ℕ) → (b ≡ true → drep_weight f c (d, e.1) ≡ drep_weight f c e)
      → o ≡ option_map (λ expiry. (drep_weight f c (d, expiry), No)) p
      → cond b (Some (drep_weight f c e, No)) o ≡ option_map (λ expiry. (drep_weight f c (d, expiry), No)) (cond b (Some e.1) p)
  here true d e o p same rest = ap (λ (n : ℕ). Some (n, No)) (sym (same refl))
  here false d e o p same rest = rest

  at_drep : (d : Credential) (dreps : List (Credential × ℕ))
      → value_at voter_cmp (those dreps) (voter.Drep d) ≡ option_map (λ expiry. (drep_weight f c (d, expiry), No)) (value_at credential_cmp dreps d)
  at_drep d [] = refl
  at_drep d (e ∷ dreps) =
      here (eq_by_cmp credential_cmp d e.0) d e (value_at voter_cmp (those dreps) (voter.Drep d)) (value_at credential_cmp dreps d) (same_weight d e) (at_drep d dreps)

  no_member : (key : Credential) (dreps : List (Credential × ℕ)) → value_at voter_cmp (those dreps) (voter.Committee key) ≡ None
  no_member key [] = refl
  no_member key (d ∷ dreps) = no_member key dreps

  no_pool : (p : PoolId) (dreps : List (Credential × ℕ)) → value_at voter_cmp (those dreps) (voter.Pool p) ≡ None
  no_pool p [] = refl
  no_pool p (d ∷ dreps) = no_pool p dreps

  pub no_drep : (v : Voter) (dreps : List (Credential × ℕ)) → ((d : Credential) → v ≡ voter.Drep d → ⊥) → value_at voter_cmp (those dreps) v ≡ None
  no_drep (voter.Committee key) dreps h = no_member key dreps
  no_drep (voter.Drep d) dreps h = absurd (h d refl)
  no_drep (voter.Pool p) dreps h = no_pool p dreps

  pub found_drep : (v : Voter) (d : Credential) (dreps items : List (Credential × ℕ)) (o : Option ℕ) → v ≡ voter.Drep d → items ≡ dreps → o ≡ value_at credential_cmp items d
      → option_map (λ expiry. (drep_weight f c (d, expiry), No)) o ≡ value_at voter_cmp (those dreps) v
  found_drep v d dreps items o is same at =
      ap (λ (p : Option ℕ). option_map (λ expiry. (drep_weight f c (d, expiry), No)) p) (at ∙ ap (λ (es : List (Credential × ℕ)). value_at credential_cmp es d) same)
      ∙ sym (ap (λ (w : Voter). value_at voter_cmp (those dreps) w) is ∙ at_drep d dreps)

  silent_yes : (dreps : List (Credential × ℕ)) → (count_of_standing (those dreps)).0 ≡ 0
  silent_yes [] = refl
  silent_yes (d ∷ dreps) = omega (arith, sum_by-cons yes_of (drep_weight f c d, No) (values_of (those dreps)), silent_yes dreps)

  silent_all : (dreps : List (Credential × ℕ)) → (count_of_standing (those dreps)).1 ≡ sum_by (drep_weight f c) dreps
  silent_all [] = refl
  silent_all (d ∷ dreps) =
      omega (arith, sum_by-cons total_of (drep_weight f c d, No) (values_of (those dreps)), sum_by-cons (drep_weight f c) d dreps, silent_all dreps)

  pub dreps_silent : (dreps : List (Credential × ℕ)) (total : ℕ) → total ≡ sum_by (drep_weight f c) dreps → ◌≡◌ {A = ℕ × ℕ} (0, total) (count_of_standing (those dreps))
  dreps_silent dreps total is = λ i. (sym (silent_yes dreps) i, (is ∙ sym (silent_all dreps)) i)

  weight_is : (dreps : List (Credential × ℕ)) → weight_of (those dreps) ≡ sum_by (drep_weight f c) dreps
  weight_is [] = refl
  weight_is (d ∷ dreps) =
      omega (arith, sum_by-cons (λ (s : ℕ × Vote). s.0) (drep_weight f c d, No) (values_of (those dreps)), sum_by-cons (drep_weight f c) d dreps, weight_is dreps)

  -- a part of a stake
  at_most : (d : Credential × ℕ) → drep_weight f c d ≤ sum_for c.sums (drep.Registered d.0)
  at_most d = elim (nat_le f.epoch d.1) as (λ b. (if b then sum_for c.sums (drep.Registered d.0) else 0) ≤ sum_for c.sums (drep.Registered d.0)) [ true ↦ omega arith | false ↦ omega arith ]

  pub weights-le : sum_by (drep_weight f c) f.dreps ≤ sum_by (λ (d : Credential × ℕ). sum_for c.sums (drep.Registered d.0)) f.dreps
  weights-le = sum_by-le-sum_by (drep_weight f c) (λ (d : Credential × ℕ). sum_for c.sums (drep.Registered d.0)) f.dreps at_most

  -- and those of the predefined ones beside them
  pub room_for_dreps : weight_of (silent_dreps f c) + sum_for c.sums drep.NoConfidence ≤ drep_stakes f c
  room_for_dreps = omega (arith, weights-le, weight_is f.dreps)

  -- what these DReps have in yes or in the total once all have voted who vote
  module _ (a : Proposal) (part : ℕ × Vote → ℕ) (nothing : (v : Vote) → part (0, v) ≡ 0) where
    measured : (dreps : List (Credential × ℕ)) → sum_by part (values_of (cast a.votes (those dreps))) ≡ sum_by part (sides_of_dreps f c a dreps)
    measured [] = refl
    measured (d ∷ dreps) =
        let vote : Vote = unwrap_or (vote_of a (voter.Drep d.0)) No in
        let rest : List (ℕ × Vote) = values_of (cast a.votes (those dreps)) in
        let active : List (Credential × ℕ) = filter (λ (e : Credential × ℕ). nat_le f.epoch e.1) dreps in
        elim (nat_le f.epoch d.1) as (λ b. sum_by part (((if b then sum_for c.sums (drep.Registered d.0) else 0), vote) ∷ rest) ≡ sum_by part (map (λ (e : Credential × ℕ). drep_side c a e.0) (cond b (d ∷ active) active))) [
          | true ↦ omega (arith, sum_by-cons part (sum_for c.sums (drep.Registered d.0), vote) rest, sum_by-cons part (drep_side c a d.0) (sides_of_dreps f c a dreps), measured dreps)
          | false ↦ omega (arith, sum_by-cons part (0, vote) rest, nothing vote, measured dreps)
        ]

  no_yes : (v : Vote) → yes_of (0, v) ≡ 0
  no_yes Yes = refl
  no_yes No = refl
  no_yes Abstain = refl

  no_total : (v : Vote) → total_of (0, v) ≡ 0
  no_total Yes = refl
  no_total No = refl
  no_total Abstain = refl

  pub dreps_cast : (a : Proposal) → count_of_standing (cast a.votes (silent_dreps f c)) ≡ with_sides (0, 0) (sides_of_dreps f c a f.dreps)
  dreps_cast a =
      (λ i. (measured a yes_of no_yes f.dreps i, measured a total_of no_total f.dreps i))
      ∙ sym (counted (sides_of_dreps f c a f.dreps) ∙ count_is (sides_of_dreps f c a f.dreps))

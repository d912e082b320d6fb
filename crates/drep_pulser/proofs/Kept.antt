-- A visit keeps what a count has to do with its snapshot.
use Rattle.std.proofs.Common.{◌≡◌, ℕ, ◌+◌, ◌^◌, ◌<◌, ◌≤◌, List, [], ◌∷◌, Bool, true, false, cond, filter, take, slice_get, Option, Some, None, option_map, is_some, unwrap_or, sum_by, refl, ap, sym, ◌∙◌, add-one, arith}
use Rattle.std.specs.Option.{option_and_then}
use Rattle.std.specs.Ordering.{eq_by_cmp}
use Rattle.std.proofs.lemmas.Option.{slice_get_within}
use Rattle.gov_ids.specs.declared.Credential.{Credential}
use Rattle.gov_ids.specs.declared.Drep.{Drep}
use Rattle.gov_ids.specs.Orders.{credential_cmp, drep_cmp}
use Rattle.gov_ids.specs.Same.{same_drep}
use Rattle.gov_ids.proofs.Totals.{drep_total}
use Rattle.book_records.specs.declared.Entry.{Entry}
use Rattle.book_records.specs.declared.Registered.{Registered}
use Rattle.maps.proofs.Lookups.{value_at-changed_at}
use Rattle.maps.specs.Maps.{changed_at, value_at, has_key}
use Rattle.maps.specs.Words.{amount, holds, some_and}
use Rattle.snapshots.specs.of_gov_model.Snapshot.{Snapshot}
use Rattle.snapshots.specs.of_gov_model.Stake.{votes_by}
use Rattle.drep_pulser.specs.Count.{Count, sum_for}
use Rattle.drep_pulser.specs.Facts.{cursor_at, weight_by, AreSums, IsCountIn, IsCountOf}
use Rattle.drep_pulser.specs.Parts.{no_part}
use Rattle.drep_pulser.specs.Visits.{drep_of, with_more, visited}
use Rattle.drep_pulser.proofs.Walking.{cut_at, took_at}
use Rattle.drep_pulser.proofs.Covered.{weighed, within, with_next}

same_there : (b : Bool) (n : ℕ) (v : Option ℕ) → is_some (cond b (option_map (λ s. s + n) v) v) ≡ is_some v
same_there true n None = refl
same_there true n (Some s) = refl
same_there false n v = refl

-- the same DReps have sums
pub more_keys : (x : Option Drep) (n : ℕ) (sums : List (Drep × ℕ)) (q : Drep) → has_key drep_cmp (with_more x n sums) q ≡ has_key drep_cmp sums q
more_keys None n sums q = refl
more_keys (Some d) n sums q =
    ap (λ (v : Option ℕ). is_some v) (value_at-changed_at drep_total d (λ s. s + n) sums q) ∙ same_there (eq_by_cmp drep_cmp d q) n (value_at drep_cmp sums q)

more_there : (b : Bool) (n : ℕ) (v : Option ℕ) → unwrap_or (cond b (option_map (λ s. s + n) v) v) 0 ≡ cond (is_some v) (unwrap_or v 0 + cond b n 0) 0
more_there true n None = refl
more_there true n (Some s) = refl
more_there false n None = refl
more_there false n (Some s) = omega arith

-- more for those that it is for, and that have a sum
pub more_sums : (x : Option Drep) (n : ℕ) (sums : List (Drep × ℕ)) (q : Drep) → sum_for (with_more x n sums) q ≡ cond (has_key drep_cmp sums q) (sum_for sums q + cond (holds same_drep x q) n 0) 0
more_sums None n sums q = more_there false n (value_at drep_cmp sums q)
more_sums (Some d) n sums q =
    ap (λ (v : Option ℕ). unwrap_or v 0) (value_at-changed_at drep_total d (λ s. s + n) sums q) ∙ more_there (eq_by_cmp drep_cmp d q) n (value_at drep_cmp sums q)

-- what an entry of a registered account weighs
pub weight_is : (e : Credential × Entry) (r : Registered) (deposits : List (Credential × ℕ)) (n : ℕ) → e.1.registered ≡ Some r → n ≡ unwrap_or (value_at credential_cmp deposits e.0) 0 → e.1.stake + r.rewards + n ≡ weight_by deposits e
weight_is e r deposits n p q = λ i. e.1.stake + amount (λ (r : Registered). r.rewards) (sym p i) + q i

-- what is weighed for a DRep
pub weighed_as : (o : Option Drep) (w : ℕ) (d : Drep) (n : ℕ) → ◌≡◌ {A = Option (Drep × ℕ)} (Some (d, n)) (option_map (λ (d : Drep). (d, w)) o) → n ≡ w
weighed_as None w d n e = cc
weighed_as (Some q) w d n e = let same : ◌≡◌ {A = Drep × ℕ} (d, n) (q, w) = cc in ap (λ (p : Drep × ℕ). p.1) same

pub votes_is : (q : Drep) (e : Credential × Entry) → votes_by q e ≡ holds same_drep (drep_of e.1) q
votes_is q e =
    elim e.1.registered as (λ x. some_and (λ (r : Registered). holds same_drep r.drep q) x ≡ holds same_drep (option_and_then (λ (r : Registered). r.drep) x) q) [ None ↦ refl | Some r ↦ refl ]

nothing_more : (d : Drep) (n : ℕ) (sums : List (Drep × ℕ)) → no_part (changed_at drep_cmp d (λ s. s + n) sums) ≡ no_part sums
nothing_more d n [] = refl
nothing_more d n (s ∷ sums) = ap (λ (l : List ℕ). 0 ∷ l) (nothing_more d n sums)

-- as many sums as before
pub same_part : (x : Option Drep) (n : ℕ) (sums : List (Drep × ℕ)) → no_part (with_more x n sums) ≡ no_part sums
same_part None n sums = refl
same_part (Some d) n sums = nothing_more d n sums

joined : (b : Bool) (s S x T : ℕ) → s ≡ cond b S 0 → S + x ≡ T → cond b (s + x) 0 ≡ cond b T 0
joined true s S x T p q = omega (arith, p, q)
joined false s S x T p q = refl

module _ (es : List (Credential × Entry)) (k : Count) (c : IsCountIn es k) (e : Credential × Entry) (m : slice_get es k.done ≡ Some e) where
  sums_next : AreSums (take (k.done + 1) es) k.deposits (with_more (drep_of e.1) (weight_by k.deposits e) k.sums)
  sums_next q =
      let w = weight_by k.deposits e in
      let front : ℕ = sum_by (weight_by k.deposits) (filter (votes_by q) (take k.done es)) in
      let next : sum_by (weight_by k.deposits) (filter (votes_by q) (take (k.done + 1) es)) ≡ front + cond (holds same_drep (drep_of e.1) q) w 0 =
      ap (λ (n : ℕ). sum_by (weight_by k.deposits) (filter (votes_by q) (take n es))) (add-one k.done)
      ∙ ap (λ (l : List (Credential × Entry)). sum_by (weight_by k.deposits) (filter (votes_by q) l)) (took_at es k.done e m)
      ∙ with_next (weight_by k.deposits) (votes_by q) (take k.done es) e
      ∙ ap (λ b. front + cond b w 0) (votes_is q e) in
      more_sums (drep_of e.1) w k.sums q
      ∙ joined (has_key drep_cmp k.sums q) (sum_for k.sums q) front (cond (holds same_drep (drep_of e.1) q) w 0) _ (c.sums q) (sym next)
      ∙ ap (λ b. cond b (sum_by (weight_by k.deposits) (filter (votes_by q) (take (k.done + 1) es))) 0) (sym (more_keys (drep_of e.1) w k.sums q))

  pub count_kept : IsCountIn es (visited e k)
  count_kept = record {
    total = c.total;
    done = omega (arith, slice_get_within es k.done e m, c.total);
    cursor = sym (ap (λ (n : ℕ). cursor_at n es) (add-one k.done) ∙ ap (λ (x : Option (Credential × Entry)). option_map (λ e. e.0) x) m);
    sums = sums_next;
    countable = c.countable;
  }

  part : (b : Bool) (n : ℕ) → cond b n 0 ≤ n
  part true n = omega arith
  part false n = omega arith

  pub weight_fits : weight_by k.deposits e < 2 ^ 64
  weight_fits = omega (arith, weighed es k.deposits c.countable, within (weight_by k.deposits) (λ e. false) es k.done e _ (cut_at es k.done e m))

  pub sum_fits : (d : Drep) → sum_for k.sums d + weight_by k.deposits e < 2 ^ 64
  sum_fits d =
      omega (
        arith,
        weighed es k.deposits c.countable,
        c.sums d,
        part (has_key drep_cmp k.sums d) (sum_by (weight_by k.deposits) (filter (votes_by d) (take k.done es))),
        within (weight_by k.deposits) (votes_by d) es k.done e _ (cut_at es k.done e m),
      )

module _ (f : Snapshot) (k : Count) (c : IsCountOf f k) where
  pub count_of_kept : (e : Credential × Entry) → slice_get f.entries k.done ≡ Some e → IsCountOf f (visited e k)
  count_of_kept e m = record {
    counts = count_kept f.entries k c.counts e m;
    dreps = λ q. more_keys (drep_of e.1) (weight_by k.deposits e) k.sums q ∙ c.dreps q;
    deposits = c.deposits;
  }

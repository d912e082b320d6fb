-- Sums that take in one part after the other.
use Rattle.std.proofs.Common.{◌≡◌, ℕ, ◌+◌, ◌^◌, ◌<◌, ◌≤◌, List, ◌∷◌, cond, drop, filter, length, take, Option, Some, slice_index_or, sum_by, ap, sym, ◌∙◌, add-one, arith}
use Rattle.std.specs.List.{zip}
use Rattle.std.specs.Map.{keys_of}
use Rattle.std.proofs.lemmas.List.{length-map, drop_all, take-append-drop, take_all}
use Rattle.std.proofs.lemmas.List.Elements.{filter-append}
use Rattle.std.proofs.lemmas.List.Sums.{sum_by-cons, sum_by-append}
use Rattle.std.proofs.lemmas.Option.{slice_get-get_or}
use Rattle.gov_ids.specs.declared.Credential.{Credential}
use Rattle.gov_ids.specs.declared.Drep.{Drep}
use Rattle.gov_ids.specs.Orders.{credential_cmp, drep_cmp}
use Rattle.book_records.specs.declared.Entry.{Entry}
use Rattle.book_records.specs.declared.Registered.{Registered}
use Rattle.maps.proofs.Joined.{at_most, summed}
use Rattle.maps.specs.Maps.{has_key}
use Rattle.maps.specs.Words.{amount}
use Rattle.snapshots.specs.of_gov_model.Snapshot.{Snapshot}
use Rattle.snapshots.specs.of_gov_model.Stake.{votes_by, weight_of}
use Rattle.view_map.specs.Walk.{entries_past}
use Rattle.drep_pulser.specs.Count.{Count, Ended, sum_for}
use Rattle.drep_pulser.specs.Facts.{IsCountIn, IsCountOf, IsCountedOf, weight_by}
use Rattle.drep_pulser.specs.Parts.{IsSharedIn, by_drep, entries_left, sum_with, with_part}
use Rattle.drep_pulser.proofs.Covered.{filtered_le, weighed}
use Rattle.drep_pulser.proofs.Parted.{keys_with, sum_with_part}
use Rattle.drep_pulser.proofs.Walking.{cut_at, rest_at}

-- sums of the same DReps are as many
pub as_many : (s t : List (Drep × ℕ)) → keys_of s ≡ keys_of t → length s ≡ length t
as_many s t keys = sym (length-map s (λ (x : Drep × ℕ). x.0)) ∙ ap (λ (ks : List Drep). length ks) keys ∙ length-map t (λ (x : Drep × ℕ). x.0)

module _ (sums : List (Drep × ℕ)) (parts : List (List ℕ)) (i : ℕ) (part : List ℕ) (d : Drep) (lt : i < length parts) (is : part ≡ slice_index_or parts i part) where
  next_part : drop i parts ≡ part ∷ drop (i + 1) parts
  next_part = cut_at parts i part (slice_get-get_or parts i part lt ∙ ap (λ (p : List ℕ). Some p) (sym is)) ∙ ap (λ n. part ∷ drop n parts) (sym (add-one i))

  -- a part that is taken in is left no longer
  pub taken_in : length part ≡ length sums → sum_with (drop (i + 1) parts) (with_part part sums) d ≡ sum_with (drop i parts) sums d
  taken_in long =
      let rest = drop (i + 1) parts in
      let same : sum_by (λ (q : List ℕ). sum_for (by_drep (with_part part sums) q) d) rest ≡ sum_by (λ (q : List ℕ). sum_for (by_drep sums q) d) rest =
      ap (λ (ks : List Drep). sum_by (λ (q : List ℕ). sum_for (zip ks q) d) rest) (keys_with sums part long) in
      omega (
        arith,
        same,
        sum_with_part sums part d long,
        sum_by-cons (λ (q : List ℕ). sum_for (by_drep sums q) d) part rest,
        ap (λ (l : List (List ℕ)). sum_with l sums d) next_part,
      )

  -- a sum with that of the next part is within those of all that are left
  pub within_parts : sum_for sums d + sum_for (by_drep sums part) d ≤ sum_with (drop i parts) sums d
  within_parts =
      omega (arith, sum_by-cons (λ (q : List ℕ). sum_for (by_drep sums q) d) part (drop (i + 1) parts), ap (λ (l : List (List ℕ)). sum_with l sums d) next_part)

-- and at the end the sum is that with all parts
pub all_taken : (sums : List (Drep × ℕ)) (parts : List (List ℕ)) (i : ℕ) (d : Drep) → length parts ≤ i → sum_for sums d ≡ sum_with (drop i parts) sums d
all_taken sums parts i d end = omega (arith, ap (λ (l : List (List ℕ)). sum_with l sums d) (drop_all i parts end))

module _ (es : List (Credential × Entry)) (c : Count) (parts : List (List ℕ)) (h : IsSharedIn es c parts) where
  pub all_fit : (d : Drep) → sum_with parts c.sums d < 2 ^ 64
  all_fit d =
      omega (
        arith,
        h.sums d,
        at_most (has_key drep_cmp c.sums d) (sum_by (weight_by c.deposits) (filter (votes_by d) es)),
        filtered_le (weight_by c.deposits) (votes_by d) es,
        weighed es c.deposits h.counts.countable,
      )

same_weight : (f : Snapshot) (c : Count) → IsCountOf f c → (e : Credential × Entry) → weight_by c.deposits e ≡ weight_of f e
same_weight f c h e = ap (λ n. e.1.stake + amount (λ (r : Registered). r.rewards) e.1.registered + n) (h.deposits e.0)

pub all_counted : (f : Snapshot) (c : Count) (parts : List (List ℕ)) (r : Ended) → IsCountOf f c → IsSharedIn f.entries c parts → r.total ≡ c.total → ((d : Drep) → sum_for r.sums d ≡ sum_with parts c.sums d) → IsCountedOf f r
all_counted f c parts r h s total sums = record {
  total = total ∙ h.counts.total;
  sums = λ d.
      sums d
      ∙ s.sums d
      ∙ (λ i. cond (h.dreps d i) (sum_by (λ e. same_weight f c h e i) (filter (votes_by d) f.entries)) 0);
}

-- a count that has visited all entries
pub all_visited : (f : Snapshot) (c : Count) (r : Ended) → IsCountOf f c → c.done ≡ c.total → r.total ≡ c.total → r.sums ≡ c.sums → IsCountedOf f r
all_visited f c r h done total sums =
    let all : take c.done f.entries ≡ f.entries = take_all c.done f.entries (omega (arith, done, h.counts.total)) in
    record {
      total = total ∙ h.counts.total;
      sums = λ d.
          ap (λ (s : List (Drep × ℕ)). sum_for s d) sums
          ∙ h.counts.sums d
          ∙ (λ i. cond (h.dreps d i) (sum_by (λ e. same_weight f c h e i) (filter (votes_by d) (all i))) 0);
    }

-- parts that hold the stakes among the entries that are left share the entries
module _ (es : List (Credential × Entry)) (c : Count) (h : IsCountIn es c) where
  left_is : entries_left c es ≡ drop c.done es
  left_is = ap (λ (k : Option Credential). entries_past credential_cmp k es) h.cursor ∙ rest_at c.done es h.countable.in_order (omega (arith, h.done, h.total))

  pub shared_by : (parts : List (List ℕ))
      → ((d : Drep) → sum_by (λ (part : List ℕ). sum_for (by_drep c.sums part) d) parts ≡ cond (has_key drep_cmp c.sums d) (sum_by (weight_by c.deposits) (filter (votes_by d) (entries_left c es))) 0)
      → IsSharedIn es c parts
  shared_by parts each = record {
    counts = h;
    sums = λ d.
        let w = weight_by c.deposits in
        let front = take c.done es in
        let all : sum_by w (filter (votes_by d) es) ≡ sum_by w (filter (votes_by d) front) + sum_by w (filter (votes_by d) (drop c.done es)) =
        ap (λ (l : List (Credential × Entry)). sum_by w (filter (votes_by d) l)) (sym (take-append-drop c.done es))
        ∙ ap (λ (l : List (Credential × Entry)). sum_by w l) (filter-append (votes_by d) front (drop c.done es))
        ∙ sum_by-append w (filter (votes_by d) front) (filter (votes_by d) (drop c.done es)) in
        let left = ap (λ (l : List (Credential × Entry)). sum_by w (filter (votes_by d) l)) left_is in
        summed (has_key drep_cmp c.sums d) _ _ _ _ _ (h.sums d) (each d) (all ∙ ap (λ n. sum_by w (filter (votes_by d) front) + n) (sym left));
  }

-- The proposals of a store, by the entries of its map.
use Rattle.std.proofs.Common.{◌≡◌, ℕ, ◌+◌, ◌-◌, ◌≤◌, Bool, true, false, cond, List, [], ◌∷◌, ◌++◌, filter, length, take, Some, refl, ap, sym, subst, ◌∙◌, append-nil, length-append, arith}
use Rattle.std.proofs.Math.Seq.{take-append_seam}
use Rattle.std.specs.List.{AllByRecursion, IsDistinct}
use Rattle.std.specs.Map.{keys_of, values_of, lookup}
use Rattle.std.proofs.lemmas.List.{map-append}
use Rattle.std.proofs.lemmas.List.Elements.{filter-append}
use Rattle.std.proofs.lemmas.List.Sums.{sum_by-append, sum_by-cons}
use Rattle.std.proofs.lemmas.Cmp.{eq_by_cmp_equiv}
use Rattle.gov_ids.specs.declared.ActionId.{ActionId}
use Rattle.gov_ids.specs.declared.Credential.{Credential}
use Rattle.gov_ids.specs.contracts.ActionIdPartialEq.TheImpl as action_eq
use Rattle.gov_ids.specs.Orders.{voter_cmp}
use Rattle.gov_ids.specs.Same.{same_action}
use Rattle.gov_ids.proofs.Sames.{action_same}
use Rattle.gov_ids.proofs.Totals.{action_id_total}
use Rattle.gov_actions.specs.declared.action.Proposal.{Proposal}
use Rattle.gov_actions.specs.declared.action.Purpose.{Purpose}
use Rattle.gov_model.specs.Ratified.{ids_of}
use Rattle.gov_model.specs.Proposals.{proposal_of, is_child, children_of, deposits_of}
use Rattle.maps.proofs.Lists.{all_with}
use Rattle.maps.specs.Maps.{IsMap}
use Rattle.proposal_store.specs.declared.families.Parent.{Parent}
use Rattle.proposal_store.specs.Added.{count_among, count_at, members_added, times_added}
use Rattle.proposal_store.specs.Families.{all_but_last, ids_at}
use Rattle.proposal_store.specs.Store.{AllKeyed, AllOrdered, IsStore}
use Rattle.proposal_store.proofs.Adding.{Counts, added_last}

-- a look-up finds the proposal of the id
pub lookup_finds : (id : ActionId) (es : List (ActionId × Proposal)) → AllKeyed es → lookup (action_eq.eq-value.it id) es ≡ proposal_of id (values_of es)
lookup_finds id [] h = refl
lookup_finds id (e ∷ es) h =
    let here : action_eq.eq-value.it id e.0 ≡ same_action e.1.id id = (λ i. action_same i id (h.0 i)) ∙ (eq_by_cmp_equiv action_id_total).symm id e.1.id in
    let later = lookup_finds id es h.1 in
    λ i. cond (here i) (Some e.1) (later i)

-- the keys are the ids
pub keys_are_ids : (es : List (ActionId × Proposal)) → AllKeyed es → keys_of es ≡ ids_of (values_of es)
keys_are_ids [] h = refl
keys_are_ids (e ∷ es) h = λ i. h.0 i ∷ keys_are_ids es h.1 i

-- so the ids are distinct where the keys are
pub ids_distinct : (es : List (ActionId × Proposal)) → AllKeyed es → IsDistinct action_eq.eq-value.it (keys_of es) → IsDistinct same_action (ids_of (values_of es))
ids_distinct es h d = subst (λ (ids : List ActionId). IsDistinct same_action ids) (keys_are_ids es h) (subst (λ eq. IsDistinct eq (keys_of es)) action_same d)

-- the values with one more
pub values_with : (es : List (ActionId × Proposal)) (id : ActionId) (p : Proposal) → values_of (es ++ (id, p) ∷ []) ≡ values_of es ++ p ∷ []
values_with es id p = map-append (λ (e : ActionId × Proposal). e.1) es ((id, p) ∷ [])

-- the children of both parts
pub children-append : (purpose : Purpose) (previous : _) (ps qs : List Proposal) → children_of purpose previous (ps ++ qs) ≡ children_of purpose previous ps ++ children_of purpose previous qs
children-append purpose previous ps qs =
    ap (λ (l : List Proposal). ids_of l) (filter-append (is_child purpose previous) ps qs) ∙ map-append (λ (p : Proposal). p.id) (filter (is_child purpose previous) ps) (filter (is_child purpose previous) qs)

-- what the store keeps where there is none
pub IsStore-none : (index : List (Parent × List ActionId)) (counts : Counts) → index ≡ [] → counts ≡ [] → IsStore [] index counts 0
unfolding IsDistinct
IsStore-none index counts h m = record {
  keyed = tt;
  distinct = tt;
  children = λ q. ap (λ (l : List (Parent × List ActionId)). ids_at l q) h;
  added = λ c. ap (λ (l : Counts). count_at l c) m;
  deposits = refl;
  ordered = tt;
}

-- what the store keeps with one more proposal
pub IsStore-added : (es : List (ActionId × Proposal)) (index new : List (Parent × List ActionId)) (counts raised : Counts) (sum : ℕ) (p : Proposal) → IsStore es index counts sum
    → ((q : Parent) → ids_at new q ≡ ids_at index q ++ children_of q.purpose q.previous (p ∷ [])) → ((c : Credential) → count_at raised c ≡ count_at counts c + count_among c (members_added p.action))
    → IsMap voter_cmp p.votes → IsDistinct action_eq.eq-value.it (keys_of (es ++ (p.id, p) ∷ [])) → IsStore (es ++ (p.id, p) ∷ []) new raised (sum + p.deposit)
IsStore-added es index new counts raised sum p h n m o d =
    let keyed : AllKeyed (es ++ (p.id, p) ∷ []) = all_with (λ (e : ActionId × Proposal). e.0 ≡ e.1.id) es (p.id, p) h.keyed refl in
    let values : values_of (es ++ (p.id, p) ∷ []) ≡ values_of es ++ p ∷ [] = values_with es p.id p in
    record {
      keyed = keyed;
      distinct = ids_distinct (es ++ (p.id, p) ∷ []) keyed d;
      children = λ q. n q ∙ ap (λ (l : List ActionId). l ++ children_of q.purpose q.previous (p ∷ [])) (h.children q)
          ∙ sym (ap (λ (ps : List Proposal). children_of q.purpose q.previous ps) values ∙ children-append q.purpose q.previous (values_of es) (p ∷ []));
      added = λ c. m c ∙ ap (λ k. k + count_among c (members_added p.action)) (h.added c) ∙ sym (ap (λ (ps : List Proposal). times_added c ps) values ∙ added_last c (values_of es) p);
      deposits = omega (
        arith,
        h.deposits,
        ap (λ (ps : List Proposal). deposits_of ps) values,
        sum_by-append (λ (q : Proposal). q.deposit) (values_of es) (p ∷ []),
        sum_by-cons (λ (q : Proposal). q.deposit) p [],
      );
      ordered = subst (λ (ps : List Proposal). AllOrdered ps) (sym values) (all_with (λ (q : Proposal). IsMap voter_cmp q.votes) (values_of es) p h.ordered o);
    }

-- and where the counts are the same
pub IsStore-counted : (es : List (ActionId × Proposal)) (index new : List (Parent × List ActionId)) (counts same : Counts) (sum : ℕ) → new ≡ index → ((c : Credential) → count_at same c ≡ count_at counts c)
    → IsStore es index counts sum → IsStore es new same sum
IsStore-counted es index new counts same sum i e h =
    record {
      keyed = h.keyed;
      distinct = h.distinct;
      children = λ q. ap (λ (l : List (Parent × List ActionId)). ids_at l q) i ∙ h.children q;
      added = λ c. e c ∙ h.added c;
      deposits = h.deposits;
      ordered = h.ordered;
    }

-- ---- without the last

-- what holds of all with one more holds of those
pub all_front : {A : Type 0} (P : A → Type 0) (xs : List A) (x : A) → AllByRecursion P (xs ++ x ∷ []) → AllByRecursion P xs
all_front P [] x h = tt
all_front P (y ∷ xs) x h = (h.0, all_front P xs x h.1)

-- and it holds of the one more
pub all_last : {A : Type 0} (P : A → Type 0) (xs : List A) (x : A) → AllByRecursion P (xs ++ x ∷ []) → P x
all_last P [] x h = h.0
all_last P (y ∷ xs) x h = all_last P xs x h.1

pub distinct_front : {K : Type 0} (eq : K → K → Bool) (ks : List K) (k : K) → IsDistinct eq (ks ++ k ∷ []) → IsDistinct eq ks
unfolding IsDistinct
distinct_front eq [] k d = tt
distinct_front eq (x ∷ ks) k d = (all_front (λ y. eq x y ≡ false) ks k d.0, distinct_front eq ks k d.1)

pub front_is : {A : Type 0} (xs : List A) (x : A) → all_but_last (xs ++ x ∷ []) ≡ xs
front_is xs x =
    let places : length (xs ++ x ∷ []) - 1 ≡ length xs = omega (arith, length-append xs (x ∷ [])) in
    ap (λ n. take n (xs ++ x ∷ [])) places ∙ take-append_seam xs (x ∷ [])

-- the last child is the last
child_left : (b : Bool) (ids : List ActionId) (p : Proposal) → cond b (all_but_last (ids ++ ids_of (cond b (p ∷ []) []))) (ids ++ ids_of (cond b (p ∷ []) [])) ≡ ids
child_left true ids p = front_is ids p.id
child_left false ids p = append-nil ids

-- what the store keeps without its last proposal
pub IsStore-front : (es : List (ActionId × Proposal)) (id : ActionId) (p : Proposal) (index new : List (Parent × List ActionId)) (counts lowered : Counts) (sum : ℕ) → IsStore (es ++ (id, p) ∷ []) index counts sum
    → ((q : Parent) → ids_at new q ≡ cond (is_child q.purpose q.previous p) (all_but_last (ids_at index q)) (ids_at index q))
    → ((c : Credential) → count_at lowered c ≡ count_at counts c - count_among c (members_added p.action)) → IsStore es new lowered (sum - p.deposit)
IsStore-front es id p index new counts lowered sum h n m =
    let values : values_of (es ++ (id, p) ∷ []) ≡ values_of es ++ p ∷ [] = values_with es id p in
    record {
      keyed = all_front (λ (e : ActionId × Proposal). e.0 ≡ e.1.id) es (id, p) h.keyed;
      distinct = distinct_front same_action (ids_of (values_of es)) p.id (subst (λ (l : List ActionId). IsDistinct same_action l) (ap (λ (ps : List Proposal). ids_of ps) values ∙ map-append (λ (q : Proposal). q.id) (values_of es) (p ∷ [])) h.distinct);
      children = λ q.
          let before : ids_at index q ≡ children_of q.purpose q.previous (values_of es) ++ children_of q.purpose q.previous (p ∷ []) =
          h.children q ∙ ap (λ (ps : List Proposal). children_of q.purpose q.previous ps) values ∙ children-append q.purpose q.previous (values_of es) (p ∷ []) in
          n q
          ∙ ap (λ (ids : List ActionId). cond (is_child q.purpose q.previous p) (all_but_last ids) ids) before
          ∙ child_left (is_child q.purpose q.previous p) (children_of q.purpose q.previous (values_of es)) p;
      added = λ c. omega (arith, m c, h.added c, ap (λ (ps : List Proposal). times_added c ps) values, added_last c (values_of es) p);
      deposits = omega (
        arith,
        h.deposits,
        ap (λ (ps : List Proposal). deposits_of ps) values,
        sum_by-append (λ (q : Proposal). q.deposit) (values_of es) (p ∷ []),
        sum_by-cons (λ (q : Proposal). q.deposit) p [],
      );
      ordered = all_front (λ (q : Proposal). IsMap voter_cmp q.votes) (values_of es) p (subst (λ (ps : List Proposal). AllOrdered ps) values h.ordered);
    }

-- it paid no more than all
pub last_paid : (es : List (ActionId × Proposal)) (id : ActionId) (p : Proposal) (sum : ℕ) → sum ≡ deposits_of (values_of (es ++ (id, p) ∷ [])) → p.deposit ≤ sum
last_paid es id p sum h =
    omega (
      arith,
      h,
      ap (λ (ps : List Proposal). deposits_of ps) (values_with es id p),
      sum_by-append (λ (q : Proposal). q.deposit) (values_of es) (p ∷ []),
      sum_by-cons (λ (q : Proposal). q.deposit) p [],
    )

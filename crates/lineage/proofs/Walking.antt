-- What holds of a walk where it starts, and after each step.
use Rattle.std.proofs.Common.{◌≡◌, Bool, true, false, not, ◌&&◌, ◌||◌, cond, List, [], ◌∷◌, ◌++◌, Option, Some, None, is_none, fold, filter, inl, inr, refl, sym, ap, subst, ◌∙◌, append_assoc, Contains}
use Rattle.std.specs.Prelude.{◌⊎◌}
use Rattle.std.specs.List.{AllByRecursion}
use Rattle.std.specs.List.Sorted.{IsStrictlySortedBy}
use Rattle.std.proofs.lemmas.Bool.{and_parts, cases_Bool, not-true, or_from, or_parts, or_right}
use Rattle.std.proofs.lemmas.List.{append-nil}
use Rattle.gov_actions.specs.declared.action.Proposal.{Proposal}
use Rattle.gov_actions.specs.declared.action.Purpose.{Purpose}
use Rattle.gov_actions.specs.declared.state.LastIds.{LastIds}
use Rattle.gov_actions.specs.Kinds.{last_of, previous_of, purpose_of}
use Rattle.gov_ids.specs.declared.ActionId.{ActionId}
use Rattle.gov_ids.specs.Orders.{action_id_cmp}
use Rattle.gov_ids.specs.Same.{same_action}
use Rattle.gov_ids.proofs.Totals.{action_id_total}
use Rattle.std.proofs.lemmas.Cmp.{eq_by_cmp_equiv}
use Rattle.gov_model.proofs.Chains.{StandsIn, is_contained, stands_in}
use Rattle.gov_model.specs.Kept.{IsChain, IsKept, is_parent, names_last}
use Rattle.gov_model.specs.Laws.{HaveDistinctIds}
use Rattle.gov_model.specs.Proposals.{children_of, is_child}
use Rattle.gov_model.specs.Ratified.{ids_of}
use Rattle.maps.specs.Maps.{IsSet, has_member, with_key}
use Rattle.maps.specs.Words.{among, same_option, some_and}
use Rattle.maps.proofs.Sets.{IsSet-with_key, has_member-with_key}
use Rattle.lineage.specs.Walks.{IsPending, IsWalk, Reach, adopted, entry_of, is_pending, is_orphan, is_root, noted, start_of}
use Rattle.lineage.proofs.Adopting.{adopted_all, adopted_open, adopted_ordered, adopted_orphans, same_back}
use Rattle.lineage.proofs.Standing.{HasId, child_is, child_purpose, each_id, has_id, id_among, no_parent, unique}

same_self : (id : ActionId) → same_action id id ≡ true
same_self id = (eq_by_cmp_equiv action_id_total).refl id

-- ---- the start

abbrev not_root : LastIds → Proposal → Bool
not_root last a = not (is_root last a)

-- the roots that have a purpose
abbrev entries_of : LastIds → List Proposal → List (Purpose × ActionId)
entries_of last [] = []
entries_of last (a ∷ xs) = cond (is_root last a) (entry_of (purpose_of a.action) a.id ++ entries_of last xs) (entries_of last xs)

module _ (last : LastIds) where
  none_more : (h : Bool) → h ≡ (h || false)
  none_more true = refl
  none_more false = refl

  moved : (s t h m : Bool) → s ≡ t → ((s || h) || m) ≡ (h || (t || m))
  moved true true true m e = refl
  moved true true false m e = refl
  moved true false h m e = cc
  moved false true h m e = cc
  moved false false h m e = refl

  start_orphans : (xs : List Proposal) (w : Reach) (k : ActionId)
      → has_member action_id_cmp (fold (noted last) w xs).orphans k ≡ (has_member action_id_cmp w.orphans k || among same_action k (ids_of (filter (not_root last) xs)))
  start_orphans [] w k = none_more (has_member action_id_cmp w.orphans k)
  start_orphans (a ∷ xs) w k =
      start_orphans xs (noted last w a) k
      ∙ elim (is_root last a)
      as (λ b. (has_member action_id_cmp (cond b (record w { pending = w.pending ++ entry_of (purpose_of a.action) a.id }) (record w { orphans = with_key action_id_cmp a.id w.orphans })).orphans k
      || among same_action k (ids_of (filter (not_root last) xs)))
      ≡ (has_member action_id_cmp w.orphans k || among same_action k (ids_of (cond (not b) (a ∷ filter (not_root last) xs) (filter (not_root last) xs))))) [
        | true ↦ refl
        | false ↦ ap (λ h. h || among same_action k (ids_of (filter (not_root last) xs))) (has_member-with_key action_id_total a.id w.orphans k)
            ∙ moved (same_action a.id k) (same_action k a.id) (has_member action_id_cmp w.orphans k) _ (same_back a.id k)
      ]

  start_open : (xs : List Proposal) (w : Reach) → (fold (noted last) w xs).pending ≡ w.pending ++ entries_of last xs
  start_open [] w = sym (append-nil w.pending)
  start_open (a ∷ xs) w =
      start_open xs (noted last w a)
      ∙ elim (is_root last a)
      as (λ b. (cond b (record w { pending = w.pending ++ entry_of (purpose_of a.action) a.id }) (record w { orphans = with_key action_id_cmp a.id w.orphans })).pending ++ entries_of last xs
      ≡ w.pending ++ cond b (entry_of (purpose_of a.action) a.id ++ entries_of last xs) (entries_of last xs)) [
        | true ↦ append_assoc w.pending (entry_of (purpose_of a.action) a.id) (entries_of last xs)
        | false ↦ refl
      ]

  start_ordered : (xs : List Proposal) (w : Reach) → IsSet action_id_cmp w.orphans → IsSet action_id_cmp (fold (noted last) w xs).orphans
  start_ordered [] w set = set
  start_ordered (a ∷ xs) w set =
      start_ordered xs (noted last w a) (elim (is_root last a)
      as (λ b. IsSet action_id_cmp (cond b (record w { pending = w.pending ++ entry_of (purpose_of a.action) a.id }) (record w { orphans = with_key action_id_cmp a.id w.orphans })).orphans) [
        | true ↦ set
        | false ↦ IsSet-with_key action_id_total a.id w.orphans set
      ])

  entry_all : (P : Purpose × ActionId → Type 0) (o : Option Purpose) (id : ActionId) (es : List (Purpose × ActionId))
      → ((u : Purpose) → o ≡ Some u → P (u, id)) → AllByRecursion P es → AllByRecursion P (entry_of o id ++ es)
  entry_all P None id es f all = all
  entry_all P (Some u) id es f all = (f u refl, all)

  entries_all : (P : Purpose × ActionId → Type 0) (xs : List Proposal)
      → ((a : Proposal) → StandsIn a xs → is_root last a ≡ true → (u : Purpose) → purpose_of a.action ≡ Some u → P (u, a.id)) → AllByRecursion P (entries_of last xs)
  entries_all P [] f = tt
  entries_all P (a ∷ xs) f =
      let later : AllByRecursion P (entries_of last xs) = entries_all P xs (λ b there. f b (inr there)) in
      elim (is_root last a)
      as (λ b. is_root last a ≡ b → AllByRecursion P (cond b (entry_of (purpose_of a.action) a.id ++ entries_of last xs) (entries_of last xs))) [
        | true ↦ λ e. entry_all P (purpose_of a.action) a.id (entries_of last xs) (f a (inl refl) e) later
        | false ↦ λ e. later
      ] refl

  open_behind : (o : Option Purpose) (id k : ActionId) (es : List (Purpose × ActionId)) → is_pending es k ≡ true → is_pending (entry_of o id ++ es) k ≡ true
  open_behind None id k es e = e
  open_behind (Some u) id k es e = or_right (same_action k id) (is_pending es k) e

  -- a root that has a purpose is pending
  open_here : (xs : List Proposal) (q : Proposal) (u : Purpose) → StandsIn q xs → is_root last q ≡ true → purpose_of q.action ≡ Some u
      → is_pending (entries_of last xs) q.id ≡ true
  open_here [] q u there root is = absurd there
  open_here (a ∷ xs) q u (inl here) root is =
      subst (λ (x : Proposal). is_pending (cond (is_root last x) (entry_of (purpose_of x.action) x.id ++ entries_of last xs) (entries_of last xs)) q.id ≡ true) (sym here)
      (ap (λ b. is_pending (cond b (entry_of (purpose_of q.action) q.id ++ entries_of last xs) (entries_of last xs)) q.id) root
      ∙ ap (λ (o : Option Purpose). is_pending (entry_of o q.id ++ entries_of last xs) q.id) is
      ∙ ap (λ s. s || is_pending (entries_of last xs) q.id) (same_self q.id))
  open_here (a ∷ xs) q u (inr later) root is =
      let behind : is_pending (entries_of last xs) q.id ≡ true = open_here xs q u later root is in
      elim (is_root last a) as (λ b. is_pending (cond b (entry_of (purpose_of a.action) a.id ++ entries_of last xs) (entries_of last xs)) q.id ≡ true) [
        | true ↦ open_behind (purpose_of a.action) a.id q.id (entries_of last xs) behind
        | false ↦ behind
      ]

  -- a root, by its purpose
  root_kept : (rest : List Proposal) (a : Proposal) (o : Option Purpose) → purpose_of a.action ≡ o → Contains rest a → is_root last a ≡ true → IsKept rest last a
  root_kept rest a None is there root = inl is
  root_kept rest a (Some u) is there root = inr ([], (there, sym (ap (λ (o : Option Purpose). is_none o || names_last last a) is) ∙ root))

  no_purpose_root : (a : Proposal) → purpose_of a.action ≡ None → is_root last a ≡ true
  no_purpose_root a none = ap (λ (o : Option Purpose). is_none o || names_last last a) none

  module _ (ps rest : List Proposal) (own : HaveDistinctIds ps) (part : (a : Proposal) → Contains rest a → Contains ps a) where
    abbrev first : Reach
    first = start_of last rest

    orphan_is : (k : ActionId) → has_member action_id_cmp first.orphans k ≡ among same_action k (ids_of (filter (not_root last) rest))
    orphan_is k = start_orphans rest (record { orphans = []; pending = [] }) k

    nonroot_of : (a : Proposal) → Contains ps a → is_orphan first a ≡ true → Contains rest a × (is_root last a ≡ false)
    nonroot_of a there e =
        let h : HasId (not_root last) rest a.id = has_id (not_root last) rest a.id (sym (orphan_is a.id) ∙ e) in
        let same : a ≡ h.0 = unique ps a h.0 own there (part h.0 h.1) h.3 in
        (subst (λ (x : Proposal). Contains rest x) (sym same) h.1, subst (λ (x : Proposal). is_root last x ≡ false) (sym same) (not-true (is_root last h.0) h.2))

    root_of : (a : Proposal) → Contains rest a → is_orphan first a ≡ false → is_root last a ≡ true
    root_of a there e =
        elim (cases_Bool (is_root last a)) [
          | inl so ↦ so
          | inr other ↦
              let orphan : is_orphan first a ≡ true = orphan_is a.id ∙ id_among (not_root last) rest a.id a there (ap not other) (same_self a.id) in
              let never : false ≡ true = sym e ∙ orphan in cc
        ]

    root_stays : (a : Proposal) → Contains rest a → is_root last a ≡ true → is_orphan first a ≡ false
    root_stays a there root =
        elim (cases_Bool (is_orphan first a)) [
          | inl so ↦
              let h = nonroot_of a (part a there) so in
              let never : true ≡ false = sym root ∙ h.1 in cc
          | inr other ↦ other
        ]

    closed_at : (a q : Proposal) (o : Option Purpose) → purpose_of q.action ≡ o → Contains rest a → Contains rest q → is_parent a q ≡ true
        → is_orphan first q ≡ false → is_pending (entries_of last rest) q.id ≡ false → is_orphan first a ≡ false
    closed_at a q None is here there parent orphan pending = root_stays a here (no_purpose_root a (no_parent a q is parent))
    closed_at a q (Some u) is here there parent orphan pending =
        let listed : is_pending (entries_of last rest) q.id ≡ true = open_here rest q u (stands_in rest q there) (root_of q there orphan) is in
        let never : true ≡ false = sym listed ∙ pending in cc

    pub starts : IsWalk ps rest last (start_of last rest)
    unfolding IsStrictlySortedBy
    starts = record {
      own = own;
      part = part;
      ordered = start_ordered rest (record { orphans = []; pending = [] }) tt;
      left = λ a there e. (nonroot_of a there e).0;
      sound = λ a there e. root_kept rest a (purpose_of a.action) refl there (root_of a there e);
      roots = root_stays;
      opened = subst (λ (es : List (Purpose × ActionId)). AllByRecursion (IsPending rest first.orphans) es) (sym (start_open rest (record { orphans = []; pending = [] })))
          (entries_all (IsPending rest first.orphans) rest (λ a there root u is. (a, is_contained rest a there, is, refl, root_stays a (is_contained rest a there) root)));
      closed = λ a q here there parent orphan pending. closed_at a q (purpose_of q.action) refl here there parent orphan
          (ap (λ (es : List (Purpose × ActionId)). is_pending es q.id) (sym (start_open rest (record { orphans = []; pending = [] }))) ∙ pending);
    }

-- ---- a step

module _ {A : Type 0} (P : A → Type 0) where
  all_last : (xs : List A) (x : A) → AllByRecursion P (xs ++ x ∷ []) → P x
  all_last [] x h = h.0
  all_last (y ∷ xs) x h = all_last xs x h.1

all_front : {A : Type 0} (P Q : A → Type 0) (xs : List A) (x : A) → ((y : A) → P y → Q y) → AllByRecursion P (xs ++ x ∷ []) → AllByRecursion Q xs
all_front P Q [] x f h = tt
all_front P Q (y ∷ xs) x f h = (f y h.0, all_front P Q xs x f h.1)

open_with : (es : List (Purpose × ActionId)) (u : Purpose) (id k : ActionId) → is_pending es k ≡ false → same_action k id ≡ false → is_pending (es ++ (u, id) ∷ []) k ≡ false
open_with [] u id k none other = ap (λ s. s || false) other
open_with (e ∷ es) u id k none other =
    let parts = or_parts (same_action k e.1) (is_pending es k) none in or_from _ _ parts.0 (open_with es u id k parts.1 other)

-- no orphan now and none that was found: no orphan before
was_none : (h m : Bool) → (h && not m) ≡ false → (h && m) ≡ false → h ≡ false
was_none true true e f = f
was_none true false e f = e
was_none false m e f = refl

module _ (ps rest : List Proposal) (last : LastIds) (orphans : List ActionId) (front : List (Purpose × ActionId)) (u : Purpose) (id : ActionId)
    (walk : IsWalk ps rest last (record { orphans = orphans; pending = front ++ (u, id) ∷ [] })) where
  abbrev children : List ActionId
  children = children_of u (Some id) ps

  abbrev mid : Reach
  mid = record { orphans = orphans; pending = front }

  abbrev new : Reach
  new = adopted u children mid

  orphans_are : (k : ActionId) → has_member action_id_cmp new.orphans k ≡ (has_member action_id_cmp orphans k && not (among same_action k children))
  orphans_are k = adopted_orphans u children mid walk.ordered k

  -- what was no orphan is none
  stays_none : (k : ActionId) → has_member action_id_cmp orphans k ≡ false → has_member action_id_cmp new.orphans k ≡ false
  stays_none k e = orphans_are k ∙ ap (λ h. h && not (among same_action k children)) e

  -- what is looked at
  looked : IsPending rest orphans (u, id)
  looked = all_last (IsPending rest orphans) front (u, id) walk.opened

  child_among : (a : Proposal) → Contains ps a → is_child u (Some id) a ≡ true → among same_action a.id children ≡ true
  child_among a there is = id_among (is_child u (Some id)) ps a.id a there is (same_self a.id)

  among_child : (a : Proposal) → Contains ps a → among same_action a.id children ≡ true → is_child u (Some id) a ≡ true
  among_child a there e =
      let h : HasId (is_child u (Some id)) ps a.id = has_id (is_child u (Some id)) ps a.id e in
      let same : a ≡ h.0 = unique ps a h.0 walk.own there h.1 h.3 in subst (λ (x : Proposal). is_child u (Some id) x ≡ true) (sym same) h.2

  parent_is : (a : Proposal) → is_child u (Some id) a ≡ is_parent a looked.0
  parent_is a = ap (λ (k : ActionId). is_child u (Some k) a) (sym looked.3) ∙ child_is a looked.0 u looked.2

  no_child : (k : ActionId) → among same_action k children ≡ true → has_member action_id_cmp new.orphans k ≡ false
  no_child k e = orphans_are k ∙ ap (λ m. has_member action_id_cmp orphans k && not m) e ∙ never (has_member action_id_cmp orphans k) where
    never : (h : Bool) → (h && false) ≡ false
    never true = refl
    never false = refl

  kept_by : (a : Proposal) → Contains rest a → is_parent a looked.0 ≡ true → IsKept rest last looked.0 → IsKept rest last a
  kept_by a there parent (inl none) = let never : None ≡ Some u = sym none ∙ looked.2 in cc
  kept_by a there parent (inr c) = inr (looked.0 ∷ c.0, (there, parent, c.1))

  looked_kept : IsKept rest last looked.0
  looked_kept = walk.sound looked.0 looked.1 (subst (λ (k : ActionId). has_member action_id_cmp orphans k ≡ false) (sym looked.3) looked.4)

  sound_at : (a : Proposal) → Contains rest a → is_orphan new a ≡ false → IsKept rest last a
  sound_at a there e =
      elim (cases_Bool (has_member action_id_cmp orphans a.id)) [
        | inr other ↦ walk.sound a there other
        | inl so ↦ elim (cases_Bool (among same_action a.id children)) [
          | inl is ↦ kept_by a there (sym (parent_is a) ∙ among_child a (walk.part a there) is) looked_kept
          | inr is ↦
              let orphan : is_orphan new a ≡ true = orphans_are a.id ∙ (λ i. so i && not (is i)) in
              let never : false ≡ true = sym e ∙ orphan in cc
        ]
      ]

  closed_at_step : (a q : Proposal) → Contains rest a → Contains rest q → is_parent a q ≡ true → is_orphan new q ≡ false → is_pending new.pending q.id ≡ false → is_orphan new a ≡ false
  closed_at_step a q here there parent orphan pending =
      let opens : (is_pending front q.id || (has_member action_id_cmp orphans q.id && among same_action q.id children)) ≡ false = sym (adopted_open u children mid walk.ordered q.id) ∙ pending in
      let before : has_member action_id_cmp orphans q.id ≡ false =
      was_none _ (among same_action q.id children) (sym (orphans_are q.id) ∙ orphan) (or_parts (is_pending front q.id) _ opens).1 in
      elim (cases_Bool (same_action q.id id)) [
        | inl is ↦
            let same : q ≡ looked.0 =
            unique ps q looked.0 walk.own (walk.part q there) (walk.part looked.0 looked.1) (subst (λ (k : ActionId). same_action q.id k ≡ true) (sym looked.3) is) in
            no_child a.id (child_among a (walk.part a here) (parent_is a ∙ subst (λ (x : Proposal). is_parent a x ≡ true) same parent))
        | inr other ↦ stays_none a.id (walk.closed a q here there parent before (open_with front u id q.id (or_parts (is_pending front q.id) _ opens).0 other))
      ]

  pub steps : IsWalk ps rest last new
  steps = record {
    own = walk.own;
    part = walk.part;
    ordered = adopted_ordered u children mid walk.ordered;
    left = λ a there e. walk.left a there (and_parts _ (not (among same_action a.id children)) (sym (orphans_are a.id) ∙ e)).0;
    sound = sound_at;
    roots = λ a there root. stays_none a.id (walk.roots a there root);
    opened = adopted_all u (IsPending rest new.orphans) children mid walk.ordered
        (all_front (IsPending rest orphans) (IsPending rest new.orphans) front (u, id) (λ e h. (h.0, h.1, h.2, h.3, stays_none e.1 h.4)) walk.opened)
        (each_id (is_child u (Some id)) (λ k. has_member action_id_cmp orphans k ≡ true → IsPending rest new.orphans (u, k)) ps
        (λ b stands passes orphan.
        let there : Contains ps b = is_contained ps b stands in
        (b, walk.left b there orphan, child_purpose b u (Some id) passes, refl, no_child b.id (child_among b there passes))));
    closed = closed_at_step;
  }

-- ---- the end

module _ (ps rest : List Proposal) (last : LastIds) (orphans : List ActionId) (walk : IsWalk ps rest last (record { orphans = orphans; pending = [] })) where
  begins : (chain : List Proposal) (a : Proposal) → IsChain rest last (a ∷ chain) → Contains rest a
  begins [] a c = c.0
  begins (b ∷ chain) a c = c.0

  by_chain : (chain : List Proposal) (a : Proposal) → IsChain rest last (a ∷ chain) → has_member action_id_cmp orphans a.id ≡ false
  by_chain [] a c = walk.roots a c.0 (or_right (is_none (purpose_of a.action)) (names_last last a) c.1)
  by_chain (b ∷ chain) a c = walk.closed a b c.0 (begins chain b c.2) c.1 (by_chain chain b c.2) refl

  -- what stays is no orphan
  pub kept_found : (a : Proposal) → Contains rest a → IsKept rest last a → has_member action_id_cmp orphans a.id ≡ false
  kept_found a there (inl none) = walk.roots a there (ap (λ (o : Option Purpose). is_none o || names_last last a) none)
  kept_found a there (inr c) = by_chain c.0 a c.1

-- ---- one proposal more

root_is : (last : LastIds) (a : Proposal) (u : Purpose) → purpose_of a.action ≡ Some u → is_root last a ≡ same_option same_action (previous_of a.action) (last_of last u)
root_is last a u is = ap (λ (o : Option Purpose). is_none o || some_and (λ p. same_option same_action (previous_of a.action) (last_of last p)) o) is

pub noted_root : (last : LastIds) (w : Reach) (a : Proposal) (u : Purpose) → purpose_of a.action ≡ Some u → same_option same_action (previous_of a.action) (last_of last u) ≡ true
    → record w { pending = w.pending ++ (u, a.id) ∷ [] } ≡ noted last w a
noted_root last w a u is root =
    ap (λ (o : Option Purpose). record w { pending = w.pending ++ entry_of o a.id }) (sym is)
    ∙ ap (λ b. cond b (record w { pending = w.pending ++ entry_of (purpose_of a.action) a.id }) (record w { orphans = with_key action_id_cmp a.id w.orphans })) (sym (root_is last a u is ∙ root))

pub noted_orphan : (last : LastIds) (w : Reach) (a : Proposal) (u : Purpose) → purpose_of a.action ≡ Some u → same_option same_action (previous_of a.action) (last_of last u) ≡ false
    → record w { orphans = with_key action_id_cmp a.id w.orphans } ≡ noted last w a
noted_orphan last w a u is root =
    ap (λ b. cond b (record w { pending = w.pending ++ entry_of (purpose_of a.action) a.id }) (record w { orphans = with_key action_id_cmp a.id w.orphans })) (sym (root_is last a u is ∙ root))

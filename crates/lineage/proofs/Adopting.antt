-- What is left when the children of a pending proposal were looked at.
use Rattle.std.proofs.Common.{◌≡◌, ◌+◌, Bool, true, false, not, ◌&&◌, ◌||◌, cond, List, [], ◌∷◌, ◌++◌, length, refl, sym, ap, ◌∙◌, arith}
use Rattle.std.specs.List.{AllByRecursion, list_any}
use Rattle.std.specs.Ordering.{eq_by_cmp}
use Rattle.std.proofs.lemmas.Cmp.{eq_by_cmp_equiv}
use Rattle.std.proofs.lemmas.List.{length-append}
use Rattle.std.proofs.lemmas.Map.Made.{length-remove_key}
use Rattle.gov_actions.specs.declared.action.Purpose.{Purpose}
use Rattle.gov_ids.specs.declared.ActionId.{ActionId}
use Rattle.gov_ids.specs.Orders.{action_id_cmp}
use Rattle.gov_ids.specs.Same.{same_action}
use Rattle.gov_ids.proofs.Totals.{action_id_total}
use Rattle.maps.specs.Maps.{IsSet, has_member, without_member}
use Rattle.maps.specs.Words.{among}
use Rattle.maps.proofs.Lists.{all_with}
use Rattle.maps.proofs.Sets.{IsSet-without_member, has_member-without_member}
use Rattle.maps.proofs.Ties.{tied}
use Rattle.lineage.specs.Walks.{Reach, adopted, adopted_one, is_pending}

pub same_back : (a b : ActionId) → same_action a b ≡ same_action b a
same_back a b = (eq_by_cmp_equiv action_id_total).symm a b

-- ids that are the same are one member
has_same : (k id : ActionId) (ids : List ActionId) → same_action k id ≡ true → has_member action_id_cmp ids k ≡ has_member action_id_cmp ids id
has_same k id [] same = refl
has_same k id (x ∷ ids) same = ap (λ b. b || has_member action_id_cmp ids k) (sym (tied action_id_total k id x same) ∙ same_back x id) ∙ ap (λ b. same_action id x || b) (has_same k id ids same)

any_with : {A : Type 0} (p : A → Bool) (xs : List A) (x : A) → list_any p (xs ++ x ∷ []) ≡ (list_any p xs || p x)
any_with p [] x = elim (p x) as (λ b. (b || false) ≡ b) [ true ↦ refl | false ↦ refl ]
any_with p (y ∷ xs) x = elim (p y) as (λ b. (b || list_any p (xs ++ x ∷ [])) ≡ ((b || list_any p xs) || p x)) [ true ↦ refl | false ↦ any_with p xs x ]

-- ---- one child

module _ (purpose : Purpose) (w : Reach) (id : ActionId) where
  -- with what there is to tell of one child
  by_case : (P : Reach → Type 0)
      → (has_member action_id_cmp w.orphans id ≡ true → P (record { orphans = without_member action_id_cmp id w.orphans; pending = w.pending ++ (purpose, id) ∷ [] }))
      → (has_member action_id_cmp w.orphans id ≡ false → P w) → P (adopted_one purpose w id)
  by_case P found none =
      elim (has_member action_id_cmp w.orphans id)
      as (λ b. has_member action_id_cmp w.orphans id ≡ b → P (cond b (record { orphans = without_member action_id_cmp id w.orphans; pending = w.pending ++ (purpose, id) ∷ [] }) w)) [
        | true ↦ λ e. found e
        | false ↦ λ e. none e
      ] refl

  one_ordered : IsSet action_id_cmp w.orphans → IsSet action_id_cmp (adopted_one purpose w id).orphans
  one_ordered set = by_case (λ (v : Reach). IsSet action_id_cmp v.orphans) (λ e. IsSet-without_member action_id_cmp id w.orphans set) (λ e. set)

  not_both : (h s : Bool) → (not s && h) ≡ (h && not s)
  not_both true true = refl
  not_both true false = refl
  not_both false true = refl
  not_both false false = refl

  still_none : (h s : Bool) → (s ≡ true → h ≡ false) → h ≡ (h && not s)
  still_none true true f = f refl
  still_none true false f = refl
  still_none false s f = refl

  one_orphans : IsSet action_id_cmp w.orphans → (k : ActionId)
      → has_member action_id_cmp (adopted_one purpose w id).orphans k ≡ (has_member action_id_cmp w.orphans k && not (same_action k id))
  one_orphans set k =
      by_case (λ (v : Reach). has_member action_id_cmp v.orphans k ≡ (has_member action_id_cmp w.orphans k && not (same_action k id)))
      (λ e. has_member-without_member action_id_total id w.orphans k set
      ∙ ap (λ s. not s && has_member action_id_cmp w.orphans k) (same_back id k) ∙ not_both (has_member action_id_cmp w.orphans k) (same_action k id))
      (λ e. still_none (has_member action_id_cmp w.orphans k) (same_action k id) (λ same. has_same k id w.orphans same ∙ e))

  opened_by : (o s h : Bool) → (s ≡ true → h ≡ true) → (o || s) ≡ (o || (h && s))
  opened_by true s h f = refl
  opened_by false true h f = sym (ap (λ b. b && true) (f refl))
  opened_by false false true f = refl
  opened_by false false false f = refl

  not_opened : (o s h : Bool) → (s ≡ true → h ≡ false) → o ≡ (o || (h && s))
  not_opened true s h f = refl
  not_opened false true h f = sym (ap (λ b. b && true) (f refl))
  not_opened false false true f = refl
  not_opened false false false f = refl

  one_open : (k : ActionId) → is_pending (adopted_one purpose w id).pending k ≡ (is_pending w.pending k || (has_member action_id_cmp w.orphans k && same_action k id))
  one_open k =
      by_case (λ (v : Reach). is_pending v.pending k ≡ (is_pending w.pending k || (has_member action_id_cmp w.orphans k && same_action k id)))
      (λ e. any_with (λ (f : Purpose × ActionId). same_action k f.1) w.pending (purpose, id)
      ∙ opened_by (is_pending w.pending k) (same_action k id) (has_member action_id_cmp w.orphans k) (λ same. has_same k id w.orphans same ∙ e))
      (λ e. not_opened (is_pending w.pending k) (same_action k id) (has_member action_id_cmp w.orphans k) (λ same. has_same k id w.orphans same ∙ e))

  one_all : (P : Purpose × ActionId → Type 0) → AllByRecursion P w.pending → (has_member action_id_cmp w.orphans id ≡ true → P (purpose, id))
      → AllByRecursion P (adopted_one purpose w id).pending
  one_all P all new = by_case (λ (v : Reach). AllByRecursion P v.pending) (λ e. all_with P w.pending (purpose, id) all (new e)) (λ e. all)

  one_length : length (adopted_one purpose w id).pending + length (adopted_one purpose w id).orphans ≡ length w.pending + length w.orphans
  one_length =
      by_case (λ (v : Reach). length v.pending + length v.orphans ≡ length w.pending + length w.orphans)
      (λ e. omega (arith, length-append w.pending ((purpose, id) ∷ []), length-remove_key (eq_by_cmp action_id_cmp id) w.orphans e))
      (λ e. refl)

-- ---- all of them

module _ (purpose : Purpose) where
  pub adopted_ordered : (ids : List ActionId) (w : Reach) → IsSet action_id_cmp w.orphans → IsSet action_id_cmp (adopted purpose ids w).orphans
  adopted_ordered [] w set = set
  adopted_ordered (id ∷ ids) w set = adopted_ordered ids (adopted_one purpose w id) (one_ordered purpose w id set)

  none_of : (h s m : Bool) → ((h && not s) && not m) ≡ (h && not (s || m))
  none_of true true m = refl
  none_of true false m = refl
  none_of false s m = refl

  no_more : (h : Bool) → h ≡ (h && true)
  no_more true = refl
  no_more false = refl

  -- the children are no orphans
  pub adopted_orphans : (ids : List ActionId) (w : Reach) → IsSet action_id_cmp w.orphans → (k : ActionId)
      → has_member action_id_cmp (adopted purpose ids w).orphans k ≡ (has_member action_id_cmp w.orphans k && not (among same_action k ids))
  adopted_orphans [] w set k = no_more (has_member action_id_cmp w.orphans k)
  adopted_orphans (id ∷ ids) w set k =
      adopted_orphans ids (adopted_one purpose w id) (one_ordered purpose w id set) k
      ∙ ap (λ h. h && not (among same_action k ids)) (one_orphans purpose w id set k)
      ∙ none_of (has_member action_id_cmp w.orphans k) (same_action k id) (among same_action k ids)

  either : (o h s m : Bool) → ((o || (h && s)) || ((h && not s) && m)) ≡ (o || (h && (s || m)))
  either true h s m = refl
  either false true true m = refl
  either false true false m = refl
  either false false s m = refl

  none_more : (o h : Bool) → o ≡ (o || (h && false))
  none_more true h = refl
  none_more false true = refl
  none_more false false = refl

  -- those that were orphans are pending
  pub adopted_open : (ids : List ActionId) (w : Reach) → IsSet action_id_cmp w.orphans → (k : ActionId)
      → is_pending (adopted purpose ids w).pending k ≡ (is_pending w.pending k || (has_member action_id_cmp w.orphans k && among same_action k ids))
  adopted_open [] w set k = none_more (is_pending w.pending k) (has_member action_id_cmp w.orphans k)
  adopted_open (id ∷ ids) w set k =
      adopted_open ids (adopted_one purpose w id) (one_ordered purpose w id set) k
      ∙ (λ i. one_open purpose w id k i || (one_orphans purpose w id set k i && among same_action k ids))
      ∙ either (is_pending w.pending k) (has_member action_id_cmp w.orphans k) (same_action k id) (among same_action k ids)

  first_of : (h s : Bool) → (h && not s) ≡ true → h ≡ true
  first_of true s e = refl
  first_of false s e = e

  weaker : (P : Purpose × ActionId → Type 0) (w v : Reach) → ((k : ActionId) → has_member action_id_cmp v.orphans k ≡ true → has_member action_id_cmp w.orphans k ≡ true)
      → (ids : List ActionId) → AllByRecursion (λ id. has_member action_id_cmp w.orphans id ≡ true → P (purpose, id)) ids
      → AllByRecursion (λ id. has_member action_id_cmp v.orphans id ≡ true → P (purpose, id)) ids
  weaker P w v f [] all = tt
  weaker P w v f (id ∷ ids) all = (λ e. all.0 (f id e), weaker P w v f ids all.1)

  pub adopted_all : (P : Purpose × ActionId → Type 0) (ids : List ActionId) (w : Reach) → IsSet action_id_cmp w.orphans → AllByRecursion P w.pending
      → AllByRecursion (λ id. has_member action_id_cmp w.orphans id ≡ true → P (purpose, id)) ids → AllByRecursion P (adopted purpose ids w).pending
  adopted_all P [] w set pending new = pending
  adopted_all P (id ∷ ids) w set pending new =
      adopted_all P ids (adopted_one purpose w id) (one_ordered purpose w id set) (one_all purpose w id P pending new.0)
      (weaker P w (adopted_one purpose w id) (λ k e. first_of _ (same_action k id) (sym (one_orphans purpose w id set k) ∙ e)) ids new.1)

  -- each that is pending now was an orphan
  pub adopted_length : (ids : List ActionId) (w : Reach) → length (adopted purpose ids w).pending + length (adopted purpose ids w).orphans ≡ length w.pending + length w.orphans
  adopted_length [] w = refl
  adopted_length (id ∷ ids) w = adopted_length ids (adopted_one purpose w id) ∙ one_length purpose w id

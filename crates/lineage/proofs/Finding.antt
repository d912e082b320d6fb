-- What the walk finds is what stays.
use Rattle.std.proofs.Common.{◌≡◌, ℕ, ◌+◌, Bool, true, false, not, ◌&&◌, cond, List, [], ◌∷◌, ◌++◌, Some, drop, filter, fold, inl, inr, refl, sym, ap, subst, ◌∙◌, append_assoc, Contains}
use Rattle.std.specs.List.{slice_get}
use Rattle.std.proofs.lemmas.List.{drop_more}
use Rattle.std.proofs.lemmas.Option.{get_or_from_slice_get, slice_get_within}
use Rattle.gov_actions.specs.declared.action.Proposal.{Proposal}
use Rattle.gov_actions.specs.declared.action.Purpose.{Purpose}
use Rattle.gov_actions.specs.declared.state.LastIds.{LastIds}
use Rattle.gov_ids.specs.declared.ActionId.{ActionId}
use Rattle.gov_ids.specs.Orders.{action_id_cmp}
use Rattle.gov_ids.proofs.Totals.{action_id_total}
use Rattle.gov_model.proofs.Chains.{StandsIn, is_contained, stands_in}
use Rattle.gov_model.proofs.KeptOf.{from_filter, into_filter, own_filter}
use Rattle.gov_model.specs.Kept.{is_kept, kept_of}
use Rattle.gov_model.specs.Laws.{HaveDistinctIds, KeptByChains}
use Rattle.gov_model.specs.Proposals.{children_of}
use Rattle.gov_model.specs.Ratified.{ids_of}
use Rattle.maps.specs.Maps.{has_member, in_order}
use Rattle.maps.proofs.Sets.{has_member-in_order}
use Rattle.lineage.specs.Walks.{IsWalk, Reach, adopted, is_found, is_left, noted, noted_left, start_of}
use Rattle.lineage.proofs.Walking.{kept_found, starts, steps}

-- what is left stands among all
pub left_part : (enacted expired : List ActionId) (ps : List Proposal) (a : Proposal) → Contains (filter (is_left enacted expired) ps) a → Contains ps a
left_part enacted expired ps a there =
    is_contained ps a (from_filter (is_left enacted expired) ps a (stands_in (filter (is_left enacted expired) ps) a there)).0

pub walk_starts : (ps : List Proposal) (enacted expired : List ActionId) (last : LastIds) → HaveDistinctIds ps
    → IsWalk ps (filter (is_left enacted expired) ps) last (start_of last (filter (is_left enacted expired) ps))
walk_starts ps enacted expired last own = starts last ps (filter (is_left enacted expired) ps) own (left_part enacted expired ps)

-- two filters are one
filter_both : (p q r : Proposal → Bool) (xs : List Proposal) → ((a : Proposal) → StandsIn a xs → p a ≡ true → q a ≡ r a) → filter (λ a. p a && q a) xs ≡ filter r (filter p xs)
filter_both p q r [] f = refl
filter_both p q r (x ∷ xs) f =
    let later : filter (λ a. p a && q a) xs ≡ filter r (filter p xs) = filter_both p q r xs (λ a there. f a (inr there)) in
    elim (p x) as (λ b. p x ≡ b → cond (b && q x) (x ∷ filter (λ a. p a && q a) xs) (filter (λ a. p a && q a) xs) ≡ filter r (cond b (x ∷ filter p xs) (filter p xs))) [
      | true ↦ λ e. λ i. cond (f x (inl refl) e i) (x ∷ later i) (later i)
      | false ↦ λ e. later
    ] refl

module _ (law : KeptByChains) (ps : List Proposal) (enacted expired : List ActionId) (last : LastIds) (orphans : List ActionId)
    (walk : IsWalk ps (filter (is_left enacted expired) ps) last (record { orphans = orphans; pending = [] })) where
  abbrev rest : List Proposal
  rest = filter (is_left enacted expired) ps

  agree : (b c : Bool) → (b ≡ true → c ≡ false) → (c ≡ false → b ≡ true) → not c ≡ b
  agree true true f g = let never : true ≡ false = f refl in cc
  agree true false f g = refl
  agree false true f g = refl
  agree false false f g = let never : false ≡ true = g refl in cc

  found_at : (a : Proposal) → StandsIn a ps → is_left enacted expired a ≡ true → not (has_member action_id_cmp orphans a.id) ≡ is_kept rest last a
  found_at a stands left =
      let there : Contains rest a = is_contained rest a (into_filter (is_left enacted expired) ps a stands left) in
      let chains = law rest last a (own_filter (is_left enacted expired) ps walk.own) there in
      agree (is_kept rest last a) (has_member action_id_cmp orphans a.id)
      (λ kept. kept_found ps rest last orphans walk a there (chains.0 kept))
      (λ none. chains.1 (walk.sound a there none))

  finds_by : filter (λ a. is_left enacted expired a && not (has_member action_id_cmp orphans a.id)) ps ≡ kept_of ps enacted expired last
  finds_by = filter_both (is_left enacted expired) (λ a. not (has_member action_id_cmp orphans a.id)) (is_kept rest last) ps found_at

-- where nothing is pending, what is left and no orphan stays
pub finds : KeptByChains → (ps : List Proposal) (enacted expired : List ActionId) (last : LastIds) (w : Reach) → w.pending ≡ []
    → IsWalk ps (filter (is_left enacted expired) ps) last w → filter (is_found enacted expired w) ps ≡ kept_of ps enacted expired last
finds law ps enacted expired last w none walk =
    finds_by law ps enacted expired last w.orphans
    (subst (λ (es : List (Purpose × ActionId)). IsWalk ps (filter (is_left enacted expired) ps) last (record { orphans = w.orphans; pending = es })) none walk)

-- ids in order say the same
pub kept_in_order : (ps : List Proposal) (enacted expired : List ActionId) (last : LastIds)
    → kept_of ps (in_order action_id_cmp enacted) (in_order action_id_cmp expired) last ≡ kept_of ps enacted expired last
kept_in_order ps enacted expired last =
    ap (λ (f : Proposal → Bool). filter (is_kept (filter f ps) last) (filter f ps))
    (λ i a. not (has_member-in_order action_id_total enacted a.id i) && not (has_member-in_order action_id_total expired a.id i))

-- ---- one proposal further

drop_at : (ps : List Proposal) (i : ℕ) (a : Proposal) → slice_get ps i ≡ Some a → drop i ps ≡ a ∷ drop (i + 1) ps
drop_at ps i a e = drop_more ps i a (slice_get_within ps i a e) ∙ ap (λ (x : Proposal). x ∷ drop (i + 1) ps) (get_or_from_slice_get ps i a a e)

pub found_more : (f : Proposal → Bool) (front all : List ActionId) (ps : List Proposal) (i : ℕ) (a : Proposal) → slice_get ps i ≡ Some a
    → front ++ ids_of (filter f (drop i ps)) ≡ all → (front ++ ids_of (filter f (a ∷ []))) ++ ids_of (filter f (drop (i + 1) ps)) ≡ all
found_more f front all ps i a e h =
    append_assoc front (ids_of (filter f (a ∷ []))) (ids_of (filter f (drop (i + 1) ps)))
    ∙ ap (λ (l : List ActionId). front ++ l)
    (elim (f a) as (λ b. ids_of (cond b (a ∷ []) []) ++ ids_of (filter f (drop (i + 1) ps)) ≡ ids_of (cond b (a ∷ filter f (drop (i + 1) ps)) (filter f (drop (i + 1) ps)))) [
      | true ↦ refl
      | false ↦ refl
    ])
    ∙ ap (λ (l : List Proposal). front ++ ids_of (filter f l)) (sym (drop_at ps i a e)) ∙ h

pub noted_more : (enacted expired : List ActionId) (last : LastIds) (w start : Reach) (ps : List Proposal) (i : ℕ) (a : Proposal) → slice_get ps i ≡ Some a
    → fold (noted last) w (filter (is_left enacted expired) (drop i ps)) ≡ start
    → fold (noted last) (noted_left enacted expired last w a) (filter (is_left enacted expired) (drop (i + 1) ps)) ≡ start
noted_more enacted expired last w start ps i a e h =
    elim (is_left enacted expired a)
    as (λ b. fold (noted last) (cond b (noted last w a) w) (filter (is_left enacted expired) (drop (i + 1) ps))
    ≡ fold (noted last) w (cond b (a ∷ filter (is_left enacted expired) (drop (i + 1) ps)) (filter (is_left enacted expired) (drop (i + 1) ps)))) [
      | true ↦ refl
      | false ↦ refl
    ]
    ∙ ap (λ (l : List Proposal). fold (noted last) w (filter (is_left enacted expired) l)) (sym (drop_at ps i a e)) ∙ h

-- ---- the children of the last pending one

pub adopted_last : (ps rest : List Proposal) (last : LastIds) (w : Reach) (front : List (Purpose × ActionId)) (u : Purpose) (id : ActionId) (ids : List ActionId)
    → w.pending ≡ front ++ (u, id) ∷ [] → ids ≡ children_of u (Some id) ps → IsWalk ps rest last w → IsWalk ps rest last (adopted u ids (record { orphans = w.orphans; pending = front }))
adopted_last ps rest last w front u id ids is are walk =
    subst (λ (ks : List ActionId). IsWalk ps rest last (adopted u ks (record { orphans = w.orphans; pending = front }))) (sym are)
    (steps ps rest last w.orphans front u id (subst (λ (es : List (Purpose × ActionId)). IsWalk ps rest last (record { orphans = w.orphans; pending = es })) is walk))

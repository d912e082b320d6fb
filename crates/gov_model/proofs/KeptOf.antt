-- What stays of proposals with ids of their own.
use Rattle.std.proofs.Common.{◌≡◌, List, [], ◌∷◌, Bool, true, false, ◌&&◌, not, cond, inl, inr, filter, refl, sym, subst, Contains}
use Rattle.std.proofs.lemmas.Bool.{cond_both}
use Rattle.std.specs.List.{AllByRecursion}
use Rattle.book_records.specs.of_gov_ids.declared.ActionId.{ActionId}
use Rattle.book_records.specs.of_gov_ids.Same.{same_action}
use Rattle.gov_actions.specs.declared.action.Proposal.{Proposal}
use Rattle.gov_model.specs.Kept.{is_kept}
use Rattle.gov_model.specs.Laws.{HaveDistinctIds, KeptOfIsKept}
use Rattle.gov_model.specs.Ratified.{ids_of, is_one_of}
use Rattle.gov_model.proofs.Apart.{all_keys-filter, own_keys-filter}
use Rattle.gov_model.proofs.Chains.{StandsIn, stands_in, is_contained, kept_by_chains}

-- what holds of the ids of proposals holds of those of a filter
pub ids_filter : (P : ActionId → Type 0) (p : Proposal → Bool) (ps : List Proposal) → AllByRecursion P (ids_of ps) → AllByRecursion P (ids_of (filter p ps))
ids_filter P p ps h = all_keys-filter (λ (a : Proposal). a.id) P p ps h

-- proposals with ids of their own, filtered, have such ids
pub own_filter : (p : Proposal → Bool) (ps : List Proposal) → HaveDistinctIds ps → HaveDistinctIds (filter p ps)
own_filter p ps h = own_keys-filter (λ (a : Proposal). a.id) same_action p ps h

module _ (p : Proposal → Bool) where
  from_cond : (b : Bool) (x y : Proposal) (ys : List Proposal) → p y ≡ b → (StandsIn x (filter p ys) → StandsIn x ys × (p x ≡ true))
      → StandsIn x (cond b (y ∷ filter p ys) (filter p ys)) → StandsIn x (y ∷ ys) × (p x ≡ true)
  from_cond true x y ys e later (inl is) = (inl is, subst (λ (z : Proposal). p z ≡ true) is e)
  from_cond true x y ys e later (inr there) = let h = later there in (inr h.0, h.1)
  from_cond false x y ys e later there = let h = later there in (inr h.0, h.1)

  -- what stands in a filter stands in the list, and passes
  pub from_filter : (xs : List Proposal) (x : Proposal) → StandsIn x (filter p xs) → StandsIn x xs × (p x ≡ true)
  from_filter [] x there = absurd there
  from_filter (y ∷ ys) x there = from_cond (p y) x y ys refl (from_filter ys x) there

  -- and what stands in the list and passes stands in it
  pub into_filter : (xs : List Proposal) (x : Proposal) → StandsIn x xs → p x ≡ true → StandsIn x (filter p xs)
  into_filter [] x there passes = absurd there
  into_filter (y ∷ ys) x (inl is) passes =
      subst (λ b. StandsIn x (cond b (y ∷ filter p ys) (filter p ys))) (sym (subst (λ (z : Proposal). p z ≡ true) (sym is) passes)) (inl is)
  into_filter (y ∷ ys) x (inr there) passes =
      let later : StandsIn x (filter p ys) = into_filter ys x there passes in
      cond_both (p y) _ _ (StandsIn x) (λ _. inr later) (λ _. later)

pub kept_of_is_kept : KeptOfIsKept
kept_of_is_kept ps enacted expired last a own =
    let rest : List Proposal = filter (λ b. not (is_one_of enacted b) && not (is_one_of expired b)) ps in
    let rest_own = own_filter (λ b. not (is_one_of enacted b) && not (is_one_of expired b)) ps own in (
      λ stays.
          let parts = from_filter (is_kept rest last) rest a (stands_in (filter (is_kept rest last) rest) a stays) in
          let there : Contains rest a = is_contained rest a parts.0 in
          (there, (kept_by_chains rest last a rest_own there).0 parts.1),
      λ kept. is_contained (filter (is_kept rest last) rest) a
          (into_filter (is_kept rest last) rest a (stands_in rest a kept.0) ((kept_by_chains rest last a rest_own kept.0).1 kept.1)),
    )

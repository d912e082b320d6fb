-- What a pass over all proposals comes to is what the definitions say of the one list that is ratified.
use Rattle.std.proofs.Common.{◌≡◌, List, [], ◌∷◌, ◌++◌, Bool, true, false, not, ◌&&◌, cond, filter, map, nat_lt, refl, ap, sym, ◌∙◌, if◌then◌else◌}
use Rattle.std.specs.List.{AllByRecursion}
use Rattle.std.proofs.lemmas.Cmp.{eq_by_cmp_equiv}
use Rattle.std.proofs.lemmas.List.Elements.{All-from_recursion, recursion_from_All}
use Rattle.maps.specs.Words.{fronts_from, with_fronts}
use Rattle.gov_ids.specs.declared.ActionId.{ActionId}
use Rattle.gov_ids.specs.Same.{same_action}
use Rattle.gov_ids.proofs.Totals.{action_id_total}
use Rattle.gov_actions.specs.declared.action.Proposal.{Proposal}
use Rattle.gov_actions.specs.declared.tally.Verdict.TheVariants as verdict
use Rattle.gov_actions.specs.Kinds.{kind_of}
use Rattle.gov_model.specs.Enacted.{enacted_after}
use Rattle.gov_model.specs.Laws.{HaveDistinctIds}
use Rattle.gov_model.specs.Need.{need_of}
use Rattle.gov_model.specs.Ratified.{IsRatified, expired_of, is_one_of, order_of, ratified_of, roles, tallies_of, tally_of}
use Rattle.gov_model.specs.Ready.{is_ready}
use Rattle.gov_model.specs.Sides.{vote_count}
use Rattle.gov_model.specs.Snapshot.{Snapshot}
use Rattle.gov_model.proofs.OneList.{one_list_is_ratified, ratified_are_chosen}
use Rattle.ratify.specs.Outcomes.{is_over}
use Rattle.ratify.specs.Passes.{chosen_of, tally_after}
use Rattle.ratify.proofs.Expiring.{passes_is}
use Rattle.ratify.proofs.Fronts.{chosen-push, filter-push}
use Rattle.ratify.proofs.Orders.{all_in_order}

abbrev id_of : Proposal → ActionId
id_of a = a.id

-- a frozen proposal is among those that expire if and only if it is over
over_is : (s : Snapshot) (ids : List ActionId) → HaveDistinctIds s.proposals → AllByRecursion (λ a. is_one_of (expired_of s ids) a ≡ is_over s.epoch ids a) (order_of s)
over_is s ids own =
    let P : Proposal → Type 0 = λ a. is_one_of (expired_of s ids) a ≡ is_over s.epoch ids a in
    let each = passes_is id_of same_action (eq_by_cmp_equiv action_id_total).refl (eq_by_cmp_equiv action_id_total).symm (is_over s.epoch ids) s.proposals own in
    recursion_from_All P (order_of s) (all_in_order P s.proposals (All-from_recursion P s.proposals each))

verdict_is : (r b e late : Bool) → b ≡ r → e ≡ (not b && late)
    → (if r then verdict.Ratified else (if late then verdict.Expired else verdict.Waiting)) ≡ (if b then verdict.Ratified else (if e then verdict.Expired else verdict.Waiting))
verdict_is true true e late p q = refl
verdict_is true false e late p q = cc
verdict_is false true e late p q = cc
verdict_is false false e late p q = ap (λ x. if x then verdict.Expired else verdict.Waiting) (sym q)

module _ (s : Snapshot) (ids : List ActionId) where
  abbrev chosen : List Proposal → List Proposal
  chosen front = filter (is_one_of ids) front

  tally_is : (front : List Proposal) (a : Proposal) → chosen front ≡ chosen_of s front → is_one_of ids a ≡ is_ready s (chosen front) a
      → is_one_of (expired_of s ids) a ≡ is_over s.epoch ids a → tally_after s (front, a) ≡ tally_of s ids (front, a)
  tally_is front a are exact over = λ i. record {
    id = a.id;
    kind = kind_of a.action;
    counts = map (λ r. vote_count r s a) roles;
    needs = map (λ r. need_of r s (enacted_after s (sym are i)) a.action) roles;
    verdict = verdict_is (is_ready s (chosen_of s front) a) (is_one_of ids a) (is_one_of (expired_of s ids) a) (nat_lt a.expires_after s.epoch)
        (exact ∙ ap (λ (es : List Proposal). is_ready s es a) are) over i;
  }

  one_more : (front : List Proposal) (a : Proposal) → chosen front ≡ chosen_of s front → is_one_of ids a ≡ is_ready s (chosen front) a → chosen (front ++ a ∷ []) ≡ chosen_of s (front ++ a ∷ [])
  one_more front a are exact =
      filter-push (is_one_of ids) front a
      ∙ ap (λ b. cond b (chosen front ++ a ∷ []) (chosen front)) exact
      ∙ ap (λ (es : List Proposal). cond (is_ready s es a) (es ++ a ∷ []) es) are
      ∙ sym (chosen-push (is_ready s) front a)

  same_tallies : (front xs : List Proposal) → chosen front ≡ chosen_of s front
      → AllByRecursion (λ (p : List Proposal × Proposal). is_one_of ids p.1 ≡ is_ready s (chosen p.0) p.1) (fronts_from front xs)
      → AllByRecursion (λ a. is_one_of (expired_of s ids) a ≡ is_over s.epoch ids a) xs → map (tally_after s) (fronts_from front xs) ≡ map (tally_of s ids) (fronts_from front xs)
  same_tallies front [] are exact over = refl
  same_tallies front (a ∷ xs) are exact over = λ i.
      tally_is front a are exact.0 over.0 i ∷ same_tallies (front ++ a ∷ []) xs (one_more front a are exact.0) exact.1 over.1 i

-- the list is what is ratified
pub ratified_is : (s : Snapshot) → HaveDistinctIds s.proposals → IsRatified s (ratified_of s)
ratified_is s own = (one_list_is_ratified s own).0

-- the state is what those of the list leave
pub state_is : (s : Snapshot) → HaveDistinctIds s.proposals → enacted_after s (chosen_of s (order_of s)) ≡ enacted_after s (filter (is_one_of (ratified_of s)) (order_of s))
state_is s own = ap (enacted_after s) (sym (ratified_are_chosen s own))

-- the tallies are those of the list
pub tallies_are : (s : Snapshot) → HaveDistinctIds s.proposals → map (tally_after s) (with_fronts (order_of s)) ≡ tallies_of s (ratified_of s)
tallies_are s own = same_tallies s (ratified_of s) [] (order_of s) refl (ratified_is s own).exactly (over_is s (ratified_of s) own)

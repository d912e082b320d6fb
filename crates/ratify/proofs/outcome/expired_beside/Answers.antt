use Rattle.std.proofs.Common.{◌≡◌, ℕ, ◌+◌, ◌<◌, List, [], ◌∷◌, ◌++◌, Bool, true, false, cond, drop, filter, get_or, length, ap, sym, ◌∙◌, add-one, append_assoc}
use Rattle.std.proofs.Math.Seq.{drop-cons}
use Rattle.gov_ids.specs.declared.ActionId.{ActionId}
use Rattle.gov_actions.specs.declared.action.Proposal.{Proposal}
use Rattle.gov_model.specs.Ratified.{ids_of}
use Rattle.ratify.specs.Outcomes.{is_over}
use Rattle.ratify.proofs.outcome.expired_beside.Goals as goal
use Rattle.ratify.proofs.outcome.expired_beside.Goals.{then-is_over+in_ok-push, else-is_over}

module _ (p : Proposal → Bool) (ids : List ActionId) (items : List Proposal) (i : ℕ) (a : Proposal) (h : i < length items) (is : a ≡ get_or items i a) where
  cut : drop i items ≡ a ∷ drop (i + 1) items
  cut = drop-cons items i a h ∙ (λ j. sym is j ∷ drop (sym (add-one i) j) items)

  -- with one more, if it passes
  passed : (b : Bool) → p a ≡ b → cond b (ids ++ a.id ∷ []) ids ++ ids_of (filter p (drop (i + 1) items)) ≡ ids ++ ids_of (filter p (drop i items))
  passed b e =
      elim b as (λ b. p a ≡ b → cond b (ids ++ a.id ∷ []) ids ++ ids_of (filter p (drop (i + 1) items)) ≡ ids ++ ids_of (filter p (drop i items))) [
        | true ↦ λ e. append_assoc ids (a.id ∷ []) _ ∙ sym (ap (λ (l : List Proposal). ids ++ ids_of (filter p l)) cut ∙ ap (λ b. ids ++ ids_of (cond b (a ∷ filter p (drop (i + 1) items)) (filter p (drop (i + 1) items)))) e)
        | false ↦ λ e. sym (ap (λ (l : List Proposal). ids ++ ids_of (filter p l)) cut ∙ ap (λ b. ids ++ ids_of (cond b (a ∷ filter p (drop (i + 1) items)) (filter p (drop (i + 1) items)))) e)
      ] e

pub loop-a-preserved : goal.loop-a-preserved
loop-a-preserved c =
    let p : Proposal → Bool = is_over c.args.f.now.epoch c.args.ratified.now.keys in
    let items = c.as_slice-a-items.result.now in
    let i = c.loop-a.a-index in
    let more = passed p c.loop-a.ids items i c.a-item.result c.loop-a-test.true c.a-item.is in
    let now : List ActionId → List ActionId = λ ids. ids ++ ids_of (filter p (drop (i + 1) items)) in
    elim c.if-is_over.branch [
      | then-is_over+in_ok-push w ↦ ap now (w.ids-is ∙ w.in_ok-push.ensures.ok) ∙ more true (sym c.is_over.ensures ∙ w.if-is_over.true) ∙ c.loop-a.invariant
      | else-is_over w ↦ ap now w.ids-is ∙ more false (sym c.is_over.ensures ∙ w.if-is_over.false) ∙ c.loop-a.invariant
    ]

use Rattle.std.proofs.Common.{◌≡◌, Bool, true, false, ◌||◌, List, Option, Some, ap, sym, ◌∙◌}
use Rattle.gov_ids.specs.declared.ActionId.{ActionId}
use Rattle.gov_ids.specs.Same.{same_action}
use Rattle.gov_actions.specs.declared.action.Action.{Action}
use Rattle.gov_actions.specs.declared.action.Purpose.{Purpose}
use Rattle.gov_actions.specs.declared.state.LastIds.{LastIds}
use Rattle.gov_actions.specs.Kinds.{last_of, previous_of, purpose_of}
use Rattle.gov_model.specs.Lineage.{is_last_enacted}
use Rattle.gov_model.proofs.Sames.{previous_same}
use Rattle.maps.specs.Words.{none_or, same_option, some_and}
use Rattle.resume_checks.specs.Purposes.{follows_among, has_purpose}
use Rattle.resume_checks.proofs.chains.may_follow.Goals as goal

module _ (es : List (ActionId × Option Purpose)) (last : LastIds) (a : Action) (purpose : Purpose) where
  by_purpose : purpose_of a ≡ Some purpose → (previous : Option ActionId) → previous ≡ previous_of a
      → follows_among es last a ≡ (same_option same_action previous (last_of last purpose) || some_and (has_purpose es purpose) previous)
  by_purpose e previous is =
      ap (none_or (λ p. is_last_enacted last p (previous_of a) || some_and (has_purpose es p) (previous_of a))) e
      ∙ ap (λ (o : Option ActionId). same_option same_action o (last_of last purpose) || some_and (has_purpose es purpose) o) (sym is)

  -- what the test of the last enacted one answered
  by_last : purpose_of a ≡ Some purpose → (previous of : Option ActionId) → previous ≡ previous_of a → of ≡ last_of last purpose → (b : Bool) → same_option same_action previous of ≡ b
      → follows_among es last a ≡ (b || some_and (has_purpose es purpose) previous)
  by_last e previous of is last_is b answer =
      by_purpose e previous is
      ∙ ap (λ (o : Option ActionId). same_option same_action previous o || some_and (has_purpose es purpose) previous) (sym last_is)
      ∙ ap (λ t. t || some_and (has_purpose es purpose) previous) answer

pub returns-then-eq : goal.returns-then-eq
returns-then-eq c =
    c.if-eq.true
    ∙ sym (by_last c.args.purposes.now.entries c.args.last.now c.args.action.now c.in-Some.purpose (sym c.purpose.ensures ∙ c.in-Some.is) c.previous-previous.result c.of.result c.previous-previous.ensures c.of.ensures true
    (sym (c.eq.ensures ∙ previous_same c.previous-previous.result c.of.result) ∙ c.if-eq.true))

pub returns-else-eq : goal.returns-else-eq
returns-else-eq c =
    c.is_one_of.ensures
    ∙ sym (by_last c.args.purposes.now.entries c.args.last.now c.args.action.now c.in-Some.purpose (sym c.purpose.ensures ∙ c.in-Some.is) c.previous-previous.result c.of.result c.previous-previous.ensures c.of.ensures false
    (sym (c.eq.ensures ∙ previous_same c.previous-previous.result c.of.result) ∙ c.if-eq.false))

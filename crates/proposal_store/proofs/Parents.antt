-- The order of parents is total, and ties what names the same purpose and the same action.
use Rattle.std.proofs.Common.{◌≡◌, ◌&&◌, sym, ◌∙◌}
use Rattle.std.specs.Ordering.{eq_by_cmp}
use Rattle.std.specs.Cmp.{IsTotalOrder}
use Rattle.gov_ids.specs.Same.{same_action}
use Rattle.gov_actions.specs.Kinds.{same_purpose}
use Rattle.gov_model.proofs.Sames.{purpose_same, previous_same}
use Rattle.maps.specs.Words.{same_option}
use Rattle.proposal_store.specs.declared.families.Parent.{Parent}
use Rattle.proposal_store.specs.contracts.families.ParentOrd.TheImpl.Laws as parent_laws
use Rattle.proposal_store.specs.Families.{parent_cmp}

pub parent_total : IsTotalOrder parent_cmp
parent_total = parent_laws.total-law

pub parent_same : (a b : Parent) → eq_by_cmp parent_cmp a b ≡ (same_purpose a.purpose b.purpose && same_option same_action a.previous b.previous)
parent_same a b = sym (parent_laws.matches_eq-law a b) ∙ (λ i. purpose_same a.purpose b.purpose i && previous_same a.previous b.previous i)

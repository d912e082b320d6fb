-- The derived `==` of purposes, and of previous actions, is the test of the definitions.
use Rattle.std.proofs.Common.{◌≡◌, Option, Some, None, refl, ◌∙◌}
use Rattle.std.specs.Option.{option_eq}
use Rattle.std.proofs.lemmas.Cmp.{eq_by_cmp_equiv}
use Rattle.book_records.specs.of_gov_ids.declared.ActionId.{ActionId}
use Rattle.book_records.specs.of_gov_ids.contracts.ActionIdPartialEq.TheImpl as action_eq
use Rattle.book_records.specs.of_gov_ids.Same.{same_action}
use Rattle.book_records.proofs.proofs_of_gov_ids.Sames.{action_same}
use Rattle.book_records.proofs.proofs_of_gov_ids.Totals.{action_id_total}
use Rattle.gov_actions.specs.declared.action.Purpose.{Purpose}
use Rattle.gov_actions.specs.declared.action.Purpose.TheVariants.{Committee, Constitution, HardFork, Parameters}
use Rattle.gov_actions.specs.contracts.action.PurposePartialEq.TheImpl as purpose_eq
use Rattle.gov_actions.specs.Kinds.{same_purpose}
use Rattle.maps.specs.Words.{holds, same_option}

pub purpose_same : (a b : Purpose) → purpose_eq.eq-value.it a b ≡ same_purpose a b
purpose_same Committee Committee = refl
purpose_same Committee Constitution = refl
purpose_same Committee HardFork = refl
purpose_same Committee Parameters = refl
purpose_same Constitution Committee = refl
purpose_same Constitution Constitution = refl
purpose_same Constitution HardFork = refl
purpose_same Constitution Parameters = refl
purpose_same HardFork Committee = refl
purpose_same HardFork Constitution = refl
purpose_same HardFork HardFork = refl
purpose_same HardFork Parameters = refl
purpose_same Parameters Committee = refl
purpose_same Parameters Constitution = refl
purpose_same Parameters HardFork = refl
purpose_same Parameters Parameters = refl

pub purpose_held : (o : Option Purpose) (b : Purpose) → option_eq purpose_eq.eq-value.it o (Some b) ≡ holds same_purpose o b
purpose_held None b = refl
purpose_held (Some a) b = purpose_same a b

pub previous_same : (a b : Option ActionId) → option_eq action_eq.eq-value.it a b ≡ same_option same_action a b
previous_same None None = refl
previous_same None (Some y) = refl
previous_same (Some x) None = refl
previous_same (Some x) (Some y) = (λ i. action_same i x y) ∙ (eq_by_cmp_equiv action_id_total).symm x y

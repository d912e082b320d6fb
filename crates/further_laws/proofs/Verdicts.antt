-- The verdicts of a snapshot that fits are those of the one list that is ratified.
use Rattle.std.proofs.Common.{◌≡◌, false}
use Rattle.std.proofs.lemmas.Bool.{not-true}
use Rattle.maps.specs.Words.{repeats}
use Rattle.maps.proofs.Fresh.{distinct_from_repeats}
use Rattle.gov_ids.specs.Orders.{action_id_cmp}
use Rattle.gov_model.specs.Ratified.{ids_of}
use Rattle.gov_model.proofs.OneList.{one_list_is_ratified}
use Rattle.dormant_laws.proofs.Lists.{left_of, right_of}
use Rattle.certificate_model.specs.Laws.{VerdictsAreOfOneList}

pub verdicts_are_of_one_list : VerdictsAreOfOneList
verdicts_are_of_one_list f h =
    let none : repeats action_id_cmp (ids_of f.proposals) ≡ false = not-true _ (right_of _ _ (right_of _ _ (left_of _ _ h.form))) in
    let all = one_list_is_ratified f (distinct_from_repeats action_id_cmp (ids_of f.proposals) none) in
    (all.0, all.1)

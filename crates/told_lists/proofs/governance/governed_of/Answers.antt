use Rattle.std.proofs.Common.{◌≤◌, List, Some, None, arith, sym, subst}
use Rattle.std.proofs.lemmas.Bool.{le-leb}
use Rattle.gov_ids.specs.declared.Credential.{Credential}
use Rattle.gov_actions.specs.declared.state.HotState.{HotState}
use Rattle.tx_records.specs.declared.limits.TheConstants.{LEAST_MAJOR}
use Rattle.committee_rows.specs.Shown.{IsGoverning, governing_shown}
use Rattle.shown_lists.specs.Only.{IsOnly}
use Rattle.told_lists.proofs.Found.{moved}
use Rattle.told_lists.proofs.GovernedParts.{governed_only, no_governing}
use Rattle.told_lists.proofs.governance.governed_of.Goals as goal

abbrev Keys : Type 0
Keys = List (Credential × HotState)

pub returns-in_default-2 : goal.returns-in_default-2
returns-in_default-2 c =
    no_governing c.args.governance c.args.params c.args.treasury
    (moved IsGoverning governing_shown None (λ i. (c.args.governance.threshold, (c.as_slice.ensures i, c.as_slice-2.ensures i))) (rw c.in_default-2.is at c.in_ok-committee.ensures))

pub returns : goal.returns
returns c =
    let g = c.args.governance in
    let least : LEAST_MAJOR ≤ g.now.2.0 = omega (arith, c.if-version-lt-LEAST_MAJOR.false) in
    let found = moved IsGoverning governing_shown (Some (c.in-Some-2.committee, c.in-Some-2.hot.items)) (λ i. (g.threshold, (c.as_slice.ensures i, c.as_slice-2.ensures i))) (rw c.in-Some-2.is at c.in_ok-committee.ensures) in
    governed_only g c.args.params c.args.treasury c.in-Some.clock (c.in-Some-2.committee, c.from_vec.result) c.in-Some.ensures
    (subst (λ (hot : Keys). IsOnly IsGoverning governing_shown (g.threshold, (g.members, g.hot)) (Some (c.in-Some-2.committee, hot))) (sym c.from_vec.ensures) found) (le-leb LEAST_MAJOR g.now.2.0 least)

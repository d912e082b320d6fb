use Rattle.std.proofs.Common.{◌≡◌, List, [], sym, subst, ℕ, ◌∙◌, rules}
use Rattle.std.specs.List.Sorted.{IsStrictlySortedBy}
use Rattle.gov_ids.specs.declared.Credential.{Credential}
use Rattle.gov_ids.specs.Orders.{credential_cmp}
use Rattle.gov_ids.proofs.Totals.{credential_total}
use Rattle.gov_model.specs.Enacted.{members_after}
use Rattle.gov_model.specs.Sides.{members_of}
use Rattle.maps.specs.Maps.{IsMap, with_values, without_keys}
use Rattle.maps.proofs.Copied.{copied_is}
use Rattle.maps.proofs.Kept.{IsMap-with_values, IsMap-without_keys}
use Rattle.enact.proofs.EnactStateEnact.apply.Goals as goal

-- members that stand in order are what a tree of them has
in_tree : (remove : List Credential) (add old members : List (Credential × ℕ)) → IsMap credential_cmp old
    → members ≡ with_values credential_cmp add (with_values credential_cmp (without_keys credential_cmp remove old) []) → members ≡ members_after remove add old
in_tree remove add old members h p =
    p ∙ (λ i. with_values credential_cmp add (copied_is credential_total (without_keys credential_cmp remove old) (IsMap-without_keys credential_cmp remove old h) i))

pub returns-in-NoConfidence-clause-in_order : goal.returns-in-NoConfidence-clause-in_order
unfolding IsStrictlySortedBy
returns-in-NoConfidence-clause-in_order c = tt

pub returns-in_ok-committee-in-UpdateCommittee-clause-enacted : goal.returns-in_ok-committee-in-UpdateCommittee-clause-enacted
returns-in_ok-committee-in-UpdateCommittee-clause-enacted c =
    let members = in_tree c.in-UpdateCommittee.remove c.as_slice.result.now (members_of c.args.self.committee) c.in_ok-committee-in-UpdateCommittee.committee.members c.requires.in_order c.in_ok-committee-in-UpdateCommittee.ensures.members in
    search rules

pub returns-in_ok-committee-in-UpdateCommittee-clause-in_order : goal.returns-in_ok-committee-in-UpdateCommittee-clause-in_order
returns-in_ok-committee-in-UpdateCommittee-clause-in_order c =
    let old = members_of c.args.self.committee in
    let remove = c.in-UpdateCommittee.remove in
    let kept = IsMap-without_keys credential_cmp remove old c.requires.in_order in
    subst (λ (es : List (Credential × ℕ)). IsMap credential_cmp es)
    (sym (in_tree remove c.as_slice.result.now old c.in_ok-committee-in-UpdateCommittee.committee.members c.requires.in_order c.in_ok-committee-in-UpdateCommittee.ensures.members))
    (IsMap-with_values credential_total c.as_slice.result.now (without_keys credential_cmp remove old) kept)

use Rattle.std.proofs.Common.{◌≡◌, ℕ, [], List, ap, ◌∙◌, rules}
use Rattle.gov_ids.specs.declared.Credential.{Credential}
use Rattle.gov_ids.specs.Orders.{credential_cmp}
use Rattle.gov_model.specs.Sides.{members_of}
use Rattle.maps.specs.Maps.{with_values, without_keys}
use Rattle.enact.proofs.committee.updated.Goals as goal

pub returns-clause-members : goal.returns-clause-members
returns-clause-members c =
    let kept : List (Credential × ℕ) = without_keys credential_cmp c.args.remove.now (members_of c.args.old) in
    let from : c.deref.result.now ≡ kept = search rules in
    let collected : c.in_ok-collect.field-0.items ≡ c.in_ok-members-2.members.entries = search rules in
    c.from_vec.ensures ∙ collected ∙ c.in_ok-members-2.ensures
    ∙ ap (with_values credential_cmp c.args.add.now) (c.in_ok-members.ensures ∙ (λ i. with_values credential_cmp (from i) (c.new.ensures.empty i)))

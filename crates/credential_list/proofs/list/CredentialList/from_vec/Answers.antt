use Rattle.std.proofs.Common.{◌≡◌, List, BTreeSet, ap, ◌∙◌, sym}
use Rattle.gov_ids.specs.declared.Credential.{Credential}
use Rattle.gov_ids.specs.Derived.{credential_is}
use Rattle.gov_ids.specs.Orders.{credential_cmp}
use Rattle.gov_ids.proofs.Totals.{credential_total}
use Rattle.gov_ids.specs.of_maps.Maps.{has_member, in_order}
use Rattle.gov_ids.proofs.proofs_of_maps.Sets.{has_member-in_order}
use Rattle.credential_list.proofs.list.CredentialList.from_vec.Goals as goal

pub invariant_of-result-2 : goal.invariant_of-result-2
invariant_of-result-2 c = λ set is key.
    let items = c.args.items.items in
    let same : set ≡ c.in_ok-set.set = cc is in
    ap (λ (s : BTreeSet Credential). has_member credential_cmp s.keys key) same
    ∙ ap (λ (keys : List Credential). has_member credential_cmp keys key) c.in_ok-set.ensures
    ∙ (λ i. has_member credential_cmp (in_order (credential_is i) (c.as_slice.ensures.value i)) key)
    ∙ has_member-in_order credential_total items key

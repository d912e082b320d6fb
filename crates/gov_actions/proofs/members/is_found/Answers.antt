use Rattle.std.proofs.Common.{ℕ, ◌∙◌, subst, rules}
use Rattle.std.specs.declared.cmp.Ordering.{Ordering}
use Rattle.std.specs.List.Sorted.{IsBinarySearchResult}
use Rattle.std.proofs.lemmas.List.Sorted.{answers_always}
use Rattle.gov_ids.specs.declared.Credential.{Credential}
use Rattle.gov_ids.specs.Derived.{credential_is}
use Rattle.gov_ids.proofs.Totals.{credential_total}
use Rattle.gov_ids.proofs.proofs_of_maps.Searched.{found_is}
use Rattle.gov_actions.proofs.members.is_found.Goals as goal

pub returns : goal.returns
returns c =
    let facts = c.binary_search_by_key.ensures in
    let members = c.args.members.now in
    let cold = c.args.cold.now in
    let by_cold = facts.position (λ (e : Credential × ℕ). e.0) (answers_always _ _ _ (λ f a r g called. search rules)) in
    c.is_ok.ensures.value
    ∙ found_is credential_total cold members c.binary_search_by_key.result c.requires facts.bound (subst (λ (cmp : Credential → Credential → Ordering). IsBinarySearchResult (λ (e : Credential × ℕ). cmp e.0 cold) members c.binary_search_by_key.result) credential_is by_cold)

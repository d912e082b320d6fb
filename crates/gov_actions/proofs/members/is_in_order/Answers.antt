use Rattle.std.proofs.Common.{◌≡◌, ℕ, subst, rules}
use Rattle.std.specs.declared.cmp.Ordering.{Ordering}
use Rattle.std.specs.List.{IsAllAdjacentAnswer}
use Rattle.std.specs.Ordering.{is_lt}
use Rattle.std.proofs.lemmas.List.Sorted.{answers_always}
use Rattle.gov_ids.specs.declared.Credential.{Credential}
use Rattle.gov_ids.specs.contracts.CredentialOrd.TheImpl as credential_ord
use Rattle.gov_ids.specs.Derived.{credential_is}
use Rattle.gov_ids.proofs.Totals.{credential_total}
use Rattle.gov_ids.proofs.proofs_of_maps.Searched.{told}
use Rattle.gov_actions.proofs.members.is_in_order.Goals as goal

pub returns : goal.returns
returns c =
    let members = c.args.members.now in
    let answer = c.is_sorted_by.ensures.cases (λ (x y : Credential × ℕ). is_lt (credential_ord.cmp-value.it x.0 y.0)) (answers_always _ _ _ (λ f a r g called. search rules)) in
    told credential_total members c.is_sorted_by.result (subst (λ (cmp : Credential → Credential → Ordering). IsAllAdjacentAnswer (λ (x y : Credential × ℕ) b. b ≡ is_lt (cmp x.0 y.0)) members c.is_sorted_by.result) credential_is answer)

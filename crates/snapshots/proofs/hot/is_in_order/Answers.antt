use Rattle.std.proofs.Common.{◌≡◌, subst, rules}
use Rattle.std.specs.declared.cmp.Ordering.{Ordering}
use Rattle.std.specs.List.{IsAllAdjacentAnswer}
use Rattle.std.specs.Ordering.{is_lt}
use Rattle.std.proofs.lemmas.List.Sorted.{answers_always}
use Rattle.gov_model.specs.of_gov_actions.declared.state.HotState.{HotState}
use Rattle.gov_ids.specs.declared.Credential.{Credential}
use Rattle.gov_ids.specs.contracts.CredentialOrd.TheImpl as credential_ord
use Rattle.gov_ids.specs.Derived.{credential_is}
use Rattle.gov_ids.proofs.Totals.{credential_total}
use Rattle.maps.proofs.Searched.{told}
use Rattle.snapshots.proofs.hot.is_in_order.Goals as goal

pub returns : goal.returns
returns c =
    let entries = c.args.entries.now in
    let answer = c.is_sorted_by.ensures.cases (λ (x y : Credential × HotState). is_lt (credential_ord.cmp-value.it x.0 y.0)) (answers_always _ _ _ (λ f a r g called. search rules)) in
    told credential_total entries c.is_sorted_by.result (subst (λ (cmp : Credential → Credential → Ordering). IsAllAdjacentAnswer (λ (x y : Credential × HotState) b. b ≡ is_lt (cmp x.0 y.0)) entries c.is_sorted_by.result) credential_is answer)

use Rattle.std.proofs.Common.{◌≡◌, [], Err, slice_index_or, subst, sym, rules}
use Rattle.std.specs.declared.cmp.Ordering.TheVariants.{Equal}
use Rattle.std.specs.List.Sorted.{IsBinarySearchResult}
use Rattle.std.proofs.lemmas.List.Sorted.{answers_always}
use Rattle.gov_ids.specs.declared.CredKind.TheVariants.{Key}
use Rattle.gov_ids.specs.declared.Credential.{Credential}
use Rattle.gov_ids.specs.Orders.{credential_cmp}
use Rattle.gov_ids.specs.Derived.{credential_is}
use Rattle.gov_ids.proofs.Totals.{credential_total}
use Rattle.gov_model.specs.of_gov_actions.declared.state.HotState.{HotState}
use Rattle.gov_model.specs.of_gov_actions.declared.state.HotState.TheVariants.{Hot}
use Rattle.snapshots.proofs.Searched.{found, missed}
use Rattle.snapshots.proofs.hot.found_in.Goals as goal

abbrev nobody : Credential × HotState
nobody = (record { hash = []; kind = Key }, Hot (record { hash = []; kind = Key }))

pub returns-in-Ok : goal.returns-in-Ok
returns-in-Ok c =
    let entries = c.args.entries.now in
    let cold = c.args.cold.now in
    let place = c.in-Ok.i in
    let equal = c.in-Ok.ensures.position (λ (e : Credential × HotState). e.0) (answers_always _ _ _ (λ f a r g called. search rules)) in
    let at : credential_cmp (slice_index_or entries place nobody).0 cold ≡ Equal = subst (λ cmp. cmp (slice_index_or entries place nobody).0 cold ≡ Equal) credential_is (equal nobody) in
    sym (found credential_total cold entries place nobody c.requires c.in-Ok.ensures.bound at)

pub returns-in-Err : goal.returns-in-Err
returns-in-Err c =
    let entries = c.args.entries.now in
    let cold = c.args.cold.now in
    let place = c.in-Err.field-0 in
    let parted = c.in-Err.ensures.position (λ (e : Credential × HotState). e.0) (answers_always _ _ _ (λ f a r g called. search rules)) in
    let by_cold = subst (λ cmp. IsBinarySearchResult (λ (e : Credential × HotState). cmp e.0 cold) entries (Err place)) credential_is parted in
    sym (missed credential_total cold entries place c.requires c.in-Err.ensures.bound by_cold)

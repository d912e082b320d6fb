use Rattle.std.proofs.Common.{◌≡◌, ℕ, [], Err, slice_index_or, subst, sym, rules}
use Rattle.std.specs.declared.cmp.Ordering.TheVariants.{Equal}
use Rattle.std.specs.List.Sorted.{IsBinarySearchResult}
use Rattle.std.proofs.lemmas.List.Sorted.{answers_always}
use Rattle.gov_ids.specs.declared.CredKind.TheVariants.{Key}
use Rattle.gov_ids.specs.declared.Credential.{Credential}
use Rattle.gov_ids.specs.Orders.{credential_cmp}
use Rattle.gov_ids.specs.Derived.{credential_is}
use Rattle.gov_ids.proofs.Totals.{credential_total}
use Rattle.snapshots.proofs.Searched.{found, missed}
use Rattle.tally.proofs.silent_dreps.expiry_in.Goals as goal

abbrev nobody : Credential × ℕ
nobody = (record { hash = []; kind = Key }, 0)

pub returns-in-Ok : goal.returns-in-Ok
returns-in-Ok c =
    let dreps = c.args.dreps.now in
    let drep = c.args.drep.now in
    let place = c.in-Ok.i in
    let equal = c.in-Ok.ensures.position (λ (e : Credential × ℕ). e.0) (answers_always _ _ _ (λ f a r g called. search rules)) in
    let at : credential_cmp (slice_index_or dreps place nobody).0 drep ≡ Equal = subst (λ cmp. cmp (slice_index_or dreps place nobody).0 drep ≡ Equal) credential_is (equal nobody) in
    sym (found credential_total drep dreps place nobody c.requires c.in-Ok.ensures.bound at)

pub returns-in-Err : goal.returns-in-Err
returns-in-Err c =
    let dreps = c.args.dreps.now in
    let drep = c.args.drep.now in
    let place = c.in-Err.field-0 in
    let parted = c.in-Err.ensures.position (λ (e : Credential × ℕ). e.0) (answers_always _ _ _ (λ f a r g called. search rules)) in
    let by_drep = subst (λ cmp. IsBinarySearchResult (λ (e : Credential × ℕ). cmp e.0 drep) dreps (Err place)) credential_is parted in
    sym (missed credential_total drep dreps place c.requires c.in-Err.ensures.bound by_drep)

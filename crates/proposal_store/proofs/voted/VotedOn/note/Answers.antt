use Rattle.std.proofs.Common.{◌≡◌, cond, List, Option, Some, None, [], ◌∷◌, ◌++◌, unwrap_or, is_some, ap, sym, subst, ◌∙◌}
use Rattle.std.specs.declared.cmp.Ordering.{Ordering}
use Rattle.std.specs.Ordering.{eq_by_cmp}
use Rattle.std.specs.BTreeMap.{BTreeMap, is_at}
use Rattle.std.specs.Map.{set_value}
use Rattle.std.proofs.lemmas.Map.Steps.{set_value_same}
use Rattle.gov_ids.specs.declared.ActionId.{ActionId}
use Rattle.gov_ids.specs.declared.Credential.{Credential}
use Rattle.gov_ids.specs.contracts.CredentialOrd.TheImpl as credential_ord
use Rattle.gov_ids.specs.Derived.{credential_is}
use Rattle.gov_ids.specs.Orders.{credential_cmp}
use Rattle.maps.proofs.Joined.{on_err}
use Rattle.maps.specs.Maps.{value_at}
use Rattle.proposal_store.proofs.Noting.{Notes, HasOneMore, has_one_more}
use Rattle.proposal_store.proofs.voted.VotedOn.note.Goals as goal

pub returns-in_err-push-clause-err : goal.returns-in_err-push-clause-err
returns-in_err-push-clause-err c =
    let test = is_at (credential_ord.cmp-value.it c.args.drep) in
    let es = c.self.inside.notes.entries in
    let same : c.push.new.self ≡ c.in-Some.ids.now = c.in_err-push.ensures.err in
    on_err c.from_residual.result (
    (c.get_mut.follows.holds c.push.new.self).0
    ∙ ap (λ (ids : List ActionId). set_value test es ids) same ∙ set_value_same test es c.in-Some.ids.now (sym c.in-Some.ensures.value)
    ∙ c.self.view_is
    )

pub returns-in-Some-clause-ok : goal.returns-in-Some-clause-ok
returns-in-Some-clause-ok c =
    let drep = c.args.drep in
    let es = c.self.inside.notes.entries in
    let there : value_at (credential_ord.cmp-value.it) es drep ≡ Some c.in-Some.ids.now = sym c.in-Some.ensures.value in
    let new = (c.get_mut.follows.lender c.push.new.self).entries in
    subst (λ (old : Notes). HasOneMore drep c.args.id old new) c.self.view_is
    (has_one_more drep c.args.id c.in-Some.ids.now es new
    (λ q. subst (λ (cmp : Credential → Credential → Ordering). value_at cmp new q ≡ cond (eq_by_cmp cmp drep q) (Some c.push.new.self) (value_at cmp es q)) credential_is (((c.get_mut.follows.holds c.push.new.self).3 (ap is_some there)).0 q)
    ∙ ap (λ (ids : List ActionId). cond (eq_by_cmp credential_cmp drep q) (Some ids) (value_at credential_cmp es q)) c.in_ok-push.ensures.ok)
    (ap (λ (o : Option (List ActionId)). unwrap_or o []) ((λ i. value_at (sym credential_is i) es drep) ∙ there)))

pub returns-clause-ok : goal.returns-clause-ok
returns-clause-ok c =
    let drep = c.args.drep in
    let es = c.self.inside.notes.entries in
    let absent : value_at (credential_ord.cmp-value.it) es drep ≡ None = sym c.in_default.ensures.value in
    let value : c.push-2.new.self ≡ c.args.id ∷ [] = c.in_ok-push-2.ensures.ok ∙ ap (λ (ids : List ActionId). ids ++ c.args.id ∷ []) c.new-ids.ensures in
    let before : c.get_mut.follows.lender-at-none.entries ≡ es = ap (λ (m : BTreeMap Credential (List ActionId)). m.entries) c.get_mut.follows.holds-at-none in
    let new = c.insert.new.self.entries in
    subst (λ (old : Notes). HasOneMore drep c.args.id old new) c.self.view_is
    (has_one_more drep c.args.id [] es new
    (λ q. subst (λ (cmp : Credential → Credential → Ordering). value_at cmp new q ≡ cond (eq_by_cmp cmp drep q) (Some c.push-2.new.self) (value_at cmp c.get_mut.follows.lender-at-none.entries q)) credential_is (c.in_ok-insert.ensures.updates.0 q)
    ∙ (λ i. cond (eq_by_cmp credential_cmp drep q) (Some (value i)) (value_at credential_cmp (before i) q)))
    (ap (λ (o : Option (List ActionId)). unwrap_or o []) ((λ i. value_at (sym credential_is i) es drep) ∙ absent)))

use Rattle.std.proofs.Common.{◌≡◌, Bool, IsTrue, true, cond, List, Option, Some, None, [], is_some, unwrap_or, refl, ap, sym, subst, ◌∙◌}
use Rattle.std.specs.declared.cmp.Ordering.{Ordering}
use Rattle.std.specs.BTreeMap.{BTreeMap}
use Rattle.std.specs.List.{IsDistinct}
use Rattle.std.specs.Ordering.{eq_by_cmp}
use Rattle.gov_ids.specs.declared.ActionId.{ActionId}
use Rattle.gov_ids.specs.declared.Credential.{Credential}
use Rattle.gov_ids.specs.contracts.CredentialOrd.TheImpl as credential_ord
use Rattle.gov_ids.specs.Derived.{credential_is}
use Rattle.gov_ids.specs.Orders.{action_id_cmp, credential_cmp}
use Rattle.gov_ids.specs.Same.{same_action}
use Rattle.gov_ids.proofs.Totals.{credential_total}
use Rattle.maps.specs.Maps.{value_at, without_member}
use Rattle.proposal_store.specs.Voted.{noted_of}
use Rattle.proposal_store.proofs.Noting.{Notes}
use Rattle.proposal_store.proofs.Shrunk.{IsAt, IsMade, made_empty, made_none, made_there}
use Rattle.proposal_store.proofs.voted.VotedOn.forget.Goals as goal

is_true : {b : Bool} → b ≡ true → IsTrue b
is_true e = e

-- a look-up by the order that is derived is one by the order of credentials
at : (drep : Credential) (x : Option (List ActionId)) (old new : Notes)
    → ((q : Credential) → value_at credential_ord.cmp-value.it new q ≡ cond (eq_by_cmp credential_ord.cmp-value.it drep q) x (value_at credential_ord.cmp-value.it old q)) → IsAt credential_total drep x old new
at drep x old new h q = subst (λ (cmp : Credential → Credential → Ordering). value_at cmp new q ≡ cond (eq_by_cmp cmp drep q) x (value_at cmp old q)) credential_is (h q)

at_one : (drep : Credential) (x : Option (List ActionId)) (es : Notes) → value_at credential_ord.cmp-value.it es drep ≡ x → value_at credential_cmp es drep ≡ x
at_one drep x es h = subst (λ (cmp : Credential → Credential → Ordering). value_at cmp es drep ≡ x) credential_is h

pub returns-in_default : goal.returns-in_default
returns-in_default c =
    let drep = c.args.drep.now in
    let f = without_member action_id_cmp c.args.id.now in
    let es = c.self.inside.notes.entries in
    let new = c.get_mut.follows.lender-at-none.entries in
    let before : new ≡ es = ap (λ (m : BTreeMap Credential (List ActionId)). m.entries) c.get_mut.follows.holds-at-none in
    subst (λ (old : Notes). IsMade credential_total drep f old new) c.self.view_is (made_none credential_total drep f es new before (at_one drep None es (sym c.in_default.ensures.value)) refl)

pub take_out-requires : goal.take_out-requires
take_out-requires c =
    let drep = c.args.drep.now in
    let es = c.self.inside.notes.entries in
    let there : value_at credential_cmp es drep ≡ Some c.in-Some.ids.now = at_one drep (Some c.in-Some.ids.now) es (sym c.in-Some.ensures.value) in
    subst (λ (ids : List ActionId). IsDistinct same_action ids) (ap (λ (l : Notes). noted_of l drep) (sym c.self.view_is) ∙ ap (λ (o : Option (List ActionId)). unwrap_or o []) there) (c.requires drep)

pub returns-then-is_empty : goal.returns-then-is_empty
returns-then-is_empty c =
    let drep = c.args.drep.now in
    let f = without_member action_id_cmp c.args.id.now in
    let es = c.self.inside.notes.entries in
    let was = c.in-Some.ids.now in
    let left = c.take_out.new.ids in
    let mid = (c.get_mut.follows.lender left).entries in
    let new = c.remove-emptied.new.self.entries in
    let found : value_at credential_ord.cmp-value.it es drep ≡ Some was = sym c.in-Some.ensures.value in
    subst (λ (old : Notes). IsMade credential_total drep f old new) c.self.view_is
    (made_empty credential_total drep was left f es mid new
    (at drep (Some left) es mid ((c.get_mut.follows.holds left).3 (ap is_some found)).0) (at drep None mid new c.remove-emptied.ensures.updates.0)
    (at_one drep (Some was) es found) c.take_out.ensures (c.is_empty.ensures.0 (is_true c.if-is_empty.true)))

pub returns-else-is_empty : goal.returns-else-is_empty
returns-else-is_empty c =
    let drep = c.args.drep.now in
    let f = without_member action_id_cmp c.args.id.now in
    let es = c.self.inside.notes.entries in
    let was = c.in-Some.ids.now in
    let left = c.take_out.new.ids in
    let new = (c.get_mut.follows.lender left).entries in
    let found : value_at credential_ord.cmp-value.it es drep ≡ Some was = sym c.in-Some.ensures.value in
    subst (λ (old : Notes). IsMade credential_total drep f old new) c.self.view_is
    (made_there credential_total drep was left f es new (at drep (Some left) es new ((c.get_mut.follows.holds left).3 (ap is_some found)).0) (at_one drep (Some was) es found) c.take_out.ensures)

use Rattle.std.proofs.Common.{◌≡◌, cond, Some, None, is_some, ap, sym, subst, ◌∙◌}
use Rattle.std.specs.declared.cmp.Ordering.{Ordering}
use Rattle.std.specs.Ordering.{eq_by_cmp}
use Rattle.std.specs.BTreeMap.{BTreeMap, is_at}
use Rattle.std.specs.BTreeSet.{BTreeSet}
use Rattle.std.specs.Map.{set_value}
use Rattle.std.proofs.lemmas.Map.Steps.{set_value_same}
use Rattle.gov_ids.specs.declared.Credential.{Credential}
use Rattle.gov_ids.specs.contracts.CredentialOrd.TheImpl as credential_ord
use Rattle.gov_ids.specs.Derived.{credential_is}
use Rattle.gov_ids.specs.Orders.{credential_cmp}
use Rattle.maps.proofs.Joined.{on_err}
use Rattle.maps.specs.Maps.{value_at, with_key}
use Rattle.committee_book.specs.Holders.{held_in}
use Rattle.committee_book.proofs.Holding.{Held, IsChanged, changed_by}
use Rattle.committee_book.proofs.holders.Holders.put.Goals as goal

pub returns-in_err-insert-clause-err : goal.returns-in_err-insert-clause-err
returns-in_err-insert-clause-err c =
    let test = is_at (credential_ord.cmp-value.it c.args.hot) in
    let es = c.self.inside.holders.entries in
    let same : c.insert.new.self ≡ c.in-Some.cold_keys.now = λ i. record { keys = c.in_err-insert.ensures.err i } in
    on_err c.from_residual.result (
    (c.get_mut.follows.holds c.insert.new.self).0
    ∙ ap (λ (s : BTreeSet Credential). set_value test es s) same ∙ set_value_same test es c.in-Some.cold_keys.now (sym c.in-Some.ensures.value)
    ∙ c.self.view_is
    )

pub returns-in-Some-clause-ok : goal.returns-in-Some-clause-ok
returns-in-Some-clause-ok c =
    let hot = c.args.hot in
    let cold = c.args.cold in
    let es = c.self.inside.holders.entries in
    let new = (c.get_mut.follows.lender c.insert.new.self).entries in
    let there : value_at (credential_ord.cmp-value.it) es hot ≡ Some c.in-Some.cold_keys.now = sym c.in-Some.ensures.value in
    subst (λ (old : Held). IsChanged hot (with_key credential_cmp cold) old new) c.self.view_is
    (changed_by hot (with_key credential_cmp cold) es new (Some c.insert.new.self)
    (λ q. subst (λ (cmp : Credential → Credential → Ordering). value_at cmp new q ≡ cond (eq_by_cmp cmp hot q) (Some c.insert.new.self) (value_at cmp es q)) credential_is (((c.get_mut.follows.holds c.insert.new.self).3 (ap is_some there)).0 q))
    (c.in_ok-insert.ensures.keys
    ∙ (λ i. with_key (credential_is i) cold (held_in (sym there i)))
    ∙ (λ i. with_key credential_cmp cold (held_in (value_at (credential_is i) es hot)))))

pub returns-clause-ok : goal.returns-clause-ok
returns-clause-ok c =
    let hot = c.args.hot in
    let cold = c.args.cold in
    let es = c.self.inside.holders.entries in
    let new = c.insert-3.new.self.entries in
    let absent : value_at (credential_ord.cmp-value.it) es hot ≡ None = sym c.in_default.ensures.value in
    let before : c.get_mut.follows.lender-at-none.entries ≡ es = ap (λ (m : BTreeMap Credential (BTreeSet Credential)). m.entries) c.get_mut.follows.holds-at-none in
    subst (λ (old : Held). IsChanged hot (with_key credential_cmp cold) old new) c.self.view_is
    (changed_by hot (with_key credential_cmp cold) es new (Some c.insert-2.new.self)
    (λ q. subst (λ (cmp : Credential → Credential → Ordering). value_at cmp new q ≡ cond (eq_by_cmp cmp hot q) (Some c.insert-2.new.self) (value_at cmp c.get_mut.follows.lender-at-none.entries q)) credential_is (c.in_ok-insert-3.ensures.updates.0 q)
    ∙ (λ i. cond (eq_by_cmp credential_cmp hot q) (Some c.insert-2.new.self) (value_at credential_cmp (before i) q)))
    (c.in_ok-insert-2.ensures.keys
    ∙ (λ i. with_key (credential_is i) cold (c.new-cold_keys.ensures.empty i))
    ∙ (λ i. with_key credential_cmp cold (held_in (sym absent i)))
    ∙ (λ i. with_key credential_cmp cold (held_in (value_at (credential_is i) es hot)))))

use Rattle.std.proofs.Common.{◌≡◌, Bool, true, IsTrue, cond, List, Option, Some, None, [], ◌∷◌, length, is_some, refl, ap, arith, sym, subst, ◌∙◌}
use Rattle.std.specs.declared.cmp.Ordering.{Ordering}
use Rattle.std.specs.Ordering.{eq_by_cmp}
use Rattle.std.specs.BTreeMap.{BTreeMap}
use Rattle.std.specs.BTreeSet.{BTreeSet}
use Rattle.gov_ids.specs.declared.Credential.{Credential}
use Rattle.gov_ids.specs.contracts.CredentialOrd.TheImpl as credential_ord
use Rattle.gov_ids.specs.Derived.{credential_is}
use Rattle.gov_ids.specs.Orders.{credential_cmp}
use Rattle.gov_ids.specs.Same.{same_credential}
use Rattle.maps.proofs.Joined.{chosen_last}
use Rattle.maps.specs.Maps.{value_at, without_member}
use Rattle.committee_book.specs.Holders.{held_at, held_in}
use Rattle.committee_book.proofs.Holding.{Held, IsChanged, changed_by, changed_none}
use Rattle.committee_book.proofs.holders.Holders.lower.Goals as goal

pub returns-in_default : goal.returns-in_default
returns-in_default c =
    let hot = c.args.hot.now in
    let cold = c.args.cold.now in
    let es = c.self.inside.holders.entries in
    let absent : value_at (credential_ord.cmp-value.it) es hot ≡ None = sym c.in_default.ensures.value in
    let before : c.get_mut.follows.lender-at-none.entries ≡ es = ap (λ (m : BTreeMap Credential (BTreeSet Credential)). m.entries) c.get_mut.follows.holds-at-none in
    subst (λ (old : Held). IsChanged hot (without_member credential_cmp cold) old c.get_mut.follows.lender-at-none.entries) c.self.view_is
    (changed_none hot (without_member credential_cmp cold) es c.get_mut.follows.lender-at-none.entries before
    (ap (λ (o : Option (BTreeSet Credential)). held_in o) ((λ i. value_at (sym credential_is i) es hot) ∙ absent)) refl)

empty_from : (ks : List Credential) → length ks ≡ 0 → ks ≡ []
empty_from [] e = refl
empty_from (k ∷ ks) e = absurd (omega (arith, e))

is_true : {b : Bool} → b ≡ true → IsTrue b
is_true e = e

-- a cold key was taken out of the set that was found
taken_by : (hot cold : Credential) (es : Held) (was left : BTreeSet Credential) → value_at (credential_ord.cmp-value.it) es hot ≡ Some was
    → left.keys ≡ without_member (credential_ord.cmp-value.it) cold was.keys → left.keys ≡ without_member credential_cmp cold (held_at es hot)
taken_by hot cold es was left there keys =
    keys
    ∙ (λ i. without_member (credential_is i) cold (held_in (sym there i)))
    ∙ (λ i. without_member credential_cmp cold (held_in (value_at (credential_is i) es hot)))

pub returns-then-is_empty : goal.returns-then-is_empty
returns-then-is_empty c =
    let hot = c.args.hot.now in
    let without = without_member credential_cmp c.args.cold.now in
    let es = c.self.inside.holders.entries in
    let middle = (c.get_mut.follows.lender c.remove.new.self).entries in
    let new = c.remove-emptied.new.self.entries in
    let there : value_at (credential_ord.cmp-value.it) es hot ≡ Some c.in-Some.cold_keys.now = sym c.in-Some.ensures.value in
    let left = taken_by hot c.args.cold.now es c.in-Some.cold_keys.now c.remove.new.self there c.remove.ensures.keys in
    let found = λ (q : Credential). subst (λ (cmp : Credential → Credential → Ordering). value_at cmp middle q ≡ cond (eq_by_cmp cmp hot q) (Some c.remove.new.self) (value_at cmp es q)) credential_is (((c.get_mut.follows.holds c.remove.new.self).3 (ap is_some there)).0 q) in
    let empty : c.remove.new.self.keys ≡ [] = empty_from (c.remove.new.self.keys) (c.is_empty.ensures.0 (is_true c.if-is_empty.true)) in
    let gone = λ (q : Credential). subst (λ (cmp : Credential → Credential → Ordering). value_at cmp new q ≡ cond (eq_by_cmp cmp hot q) None (value_at cmp middle q)) credential_is (c.remove-emptied.ensures.updates.0 q) in
    subst (λ (old : Held). IsChanged hot without old new) c.self.view_is
    (changed_by hot without es new None
    (λ q. gone q ∙ ap (λ (o : Option (BTreeSet Credential)). cond (same_credential hot q) None o) (found q) ∙ chosen_last (same_credential hot q) None (Some c.remove.new.self) (value_at credential_cmp es q))
    (sym empty ∙ left))

pub returns-else-is_empty : goal.returns-else-is_empty
returns-else-is_empty c =
    let hot = c.args.hot.now in
    let without = without_member credential_cmp c.args.cold.now in
    let es = c.self.inside.holders.entries in
    let new = (c.get_mut.follows.lender c.remove.new.self).entries in
    let there : value_at (credential_ord.cmp-value.it) es hot ≡ Some c.in-Some.cold_keys.now = sym c.in-Some.ensures.value in
    subst (λ (old : Held). IsChanged hot without old new) c.self.view_is
    (changed_by hot without es new (Some c.remove.new.self)
    (λ q. subst (λ (cmp : Credential → Credential → Ordering). value_at cmp new q ≡ cond (eq_by_cmp cmp hot q) (Some c.remove.new.self) (value_at cmp es q)) credential_is (((c.get_mut.follows.holds c.remove.new.self).3 (ap is_some there)).0 q))
    (taken_by hot c.args.cold.now es c.in-Some.cold_keys.now c.remove.new.self there c.remove.ensures.keys))

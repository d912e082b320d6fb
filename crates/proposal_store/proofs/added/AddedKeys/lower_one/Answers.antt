use Rattle.std.proofs.Common.{◌≡◌, ◌-◌, cond, Some, None, is_some, ap, arith, sym, subst, ◌∙◌}
use Rattle.std.specs.declared.cmp.Ordering.{Ordering}
use Rattle.std.specs.Ordering.{eq_by_cmp}
use Rattle.gov_ids.specs.declared.Credential.{Credential}
use Rattle.gov_ids.specs.contracts.CredentialOrd.TheImpl as credential_ord
use Rattle.gov_ids.specs.Derived.{credential_is}
use Rattle.maps.specs.Maps.{value_at}
use Rattle.proposal_store.specs.Added.{count_at}
use Rattle.proposal_store.proofs.Adding.{Counts, IsAt, lowered}
use Rattle.proposal_store.proofs.added.AddedKeys.lower_one.Goals as goal

pub returns-then-left-eq0 : goal.returns-then-left-eq0
returns-then-left-eq0 c =
    let cold = c.args.cold.now in
    let es = c.self.inside.counts.entries in
    let new = c.remove.new.self.entries in
    let at : IsAt cold None es new = λ q.
    subst (λ (cmp : Credential → Credential → Ordering). value_at cmp new q ≡ cond (eq_by_cmp cmp cold q) None (value_at cmp es q)) credential_is (c.remove.ensures.updates.0 q) in
    let old : es ≡ c.args.self.now = c.self.view_is in
    let last : 0 ≡ count_at c.args.self.now cold - 1 = omega (arith, c.of.ensures, c.saturating_sub-left.ensures, c.if-left-eq0.true) in
    lowered cold None c.args.self.now new (subst (λ (l : Counts). IsAt cold None l new) old at) last

pub returns-in-Some : goal.returns-in-Some
returns-in-Some c =
    let cold = c.args.cold.now in
    let left = c.saturating_sub-left.result in
    let es = c.self.inside.counts.entries in
    let new = (c.get_mut.follows.lender left).entries in
    let there : value_at credential_ord.cmp-value.it es cold ≡ Some c.in-Some.count.now = sym c.in-Some.ensures.value in
    let at : IsAt cold (Some left) es new = λ q.
    subst (λ (cmp : Credential → Credential → Ordering). value_at cmp new q ≡ cond (eq_by_cmp cmp cold q) (Some left) (value_at cmp es q)) credential_is (((c.get_mut.follows.holds left).3 (ap is_some there)).0 q) in
    lowered cold (Some left) c.args.self.now new (subst (λ (l : Counts). IsAt cold (Some left) l new) c.self.view_is at) (c.saturating_sub-left.ensures ∙ ap (λ n. n - 1) c.of.ensures)

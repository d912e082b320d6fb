use Rattle.std.proofs.Common.{◌≡◌, ℕ, ◌+◌, cond, Option, Some, None, ap, sym, subst, ◌∙◌}
use Rattle.std.specs.declared.cmp.Ordering.{Ordering}
use Rattle.std.specs.Option.{SomeIff}
use Rattle.std.specs.Ordering.{eq_by_cmp}
use Rattle.gov_ids.specs.declared.Credential.{Credential}
use Rattle.gov_ids.specs.Derived.{credential_is}
use Rattle.maps.specs.Maps.{value_at}
use Rattle.proposal_store.specs.Added.{count_at}
use Rattle.proposal_store.proofs.Adding.{Counts, IsAt, raised}
use Rattle.proposal_store.proofs.added.AddedKeys.raise_one.Goals as goal

-- a sum that fits is there
raised_is : (o : Option ℕ) (n m : ℕ) (P : Type 0) → o ≡ Some n → SomeIff o P m → n ≡ m
raised_is None n m P e h = cc
raised_is (Some k) n m P e h = let same : k ≡ n = cc in sym same ∙ h.1

pub returns-clause-ok : goal.returns-clause-ok
returns-clause-ok c =
    let cold = c.args.cold in
    let count = c.in_ok-count.count in
    let es = c.self.inside.counts.entries in
    let new = c.insert.new.self.entries in
    let at : IsAt cold (Some count) es new = λ q.
    subst (λ (cmp : Credential → Credential → Ordering). value_at cmp new q ≡ cond (eq_by_cmp cmp cold q) (Some count) (value_at cmp es q)) credential_is (c.in_ok-insert.ensures.updates.0 q) in
    let more : count ≡ count_at c.args.self.now cold + 1 =
    raised_is c.checked_add.result count (c.of.result + 1) _ c.in_ok-count.ensures.ok_part c.checked_add.ensures ∙ ap (λ n. n + 1) c.of.ensures in
    raised cold (Some count) c.args.self.now new (subst (λ (l : Counts). IsAt cold (Some count) l new) c.self.view_is at) more

use Rattle.std.proofs.Common.{◌≡◌, List, ℕ, drop, suc, ap, sym, ◌∙◌, ◌∷◌, ◌+◌, [], add-one, slice_index_or, rules}
use Rattle.std.proofs.Math.Seq.{drop-cons}
use Rattle.gov_ids.specs.declared.CredKind.TheVariants.{Key}
use Rattle.gov_ids.specs.declared.Credential.{Credential}
use Rattle.gov_ids.specs.Derived.{credential_is}
use Rattle.gov_ids.specs.Orders.{credential_cmp}
use Rattle.maps.specs.Maps.{with_value, with_values}
use Rattle.enact.proofs.committee.with.Goals as goal

abbrev nobody : Credential × ℕ
nobody = (record { hash = []; kind = Key }, 0)

pub loop-cold-preserved : goal.loop-cold-preserved
loop-cold-preserved c =
    let come = c.args.come.now in
    let i = c.loop-cold.cold-index in
    let e = slice_index_or come i nobody in
    let before = c.loop-cold.members.entries in
    let entered : c.insert.new.self.entries ≡ with_value credential_cmp e.0 e.1 before = c.in_ok-insert.ensures.entries ∙ (λ j. with_value (credential_is j) e.0 e.1 before) in
    let cut : drop i come ≡ e ∷ drop (i + 1) come = drop-cons come i nobody c.loop-cold-test.true ∙ ap (λ n. e ∷ drop n come) (sym (add-one i)) in
    ap (λ (es : List (Credential × ℕ)). with_values credential_cmp (drop (i + 1) come) es) entered
    ∙ ap (λ (l : List (Credential × ℕ)). with_values credential_cmp l before) (sym cut)
    ∙ c.loop-cold.invariant

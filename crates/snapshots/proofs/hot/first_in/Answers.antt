use Rattle.std.proofs.Common.{◌≡◌, ℕ, suc, ◌<◌, Bool, true, false, cond, List, [], length, get_or, drop, Some, ap, sym, ◌∙◌, add-one}
use Rattle.std.proofs.Math.Seq.{drop-cons}
use Rattle.std.proofs.lemmas.Cmp.{eq_by_cmp_equiv}
use Rattle.gov_ids.specs.declared.CredKind.TheVariants.{Key}
use Rattle.gov_ids.specs.declared.Credential.{Credential}
use Rattle.gov_ids.specs.contracts.CredentialPartialEq.TheImpl as credential_eq
use Rattle.gov_ids.specs.Orders.{credential_cmp}
use Rattle.gov_ids.specs.Same.{same_credential}
use Rattle.gov_ids.proofs.Sames.{credential_same}
use Rattle.gov_ids.proofs.Totals.{credential_total}
use Rattle.gov_model.specs.of_gov_actions.declared.state.HotState.{HotState}
use Rattle.gov_model.specs.of_gov_actions.declared.state.HotState.TheVariants.{Hot}
use Rattle.maps.specs.Maps.{value_at}
use Rattle.snapshots.proofs.hot.first_in.Goals as goal

abbrev nobody : Credential × HotState
nobody = (record { hash = []; kind = Key }, Hot (record { hash = []; kind = Key }))

-- the derived test, the other way round
turned : (a b : Credential) → credential_eq.eq-value.it a b ≡ same_credential b a
turned a b = (λ i. credential_same i a b) ∙ (eq_by_cmp_equiv credential_total).symm a b

-- the next entry is the one, or the value is among those after it
next : (hot : List (Credential × HotState)) (i : ℕ) (cold : Credential) (b : Bool) → i < length hot
    → value_at credential_cmp (drop i hot) cold ≡ value_at credential_cmp hot cold → credential_eq.eq-value.it (get_or hot i nobody).0 cold ≡ b
    → cond b (Some (get_or hot i nobody).1) (value_at credential_cmp (drop (suc i) hot) cold) ≡ value_at credential_cmp hot cold
next hot i cold b lt before test =
    let e = get_or hot i nobody in
    ap (λ t. cond t (Some e.1) (value_at credential_cmp (drop (suc i) hot) cold)) (sym test ∙ turned e.0 cold)
    ∙ ap (λ (es : List (Credential × HotState)). value_at credential_cmp es cold) (sym (drop-cons hot i nobody lt))
    ∙ before

pub returns-then-eq : goal.returns-then-eq
returns-then-eq c = next c.args.entries.now c.loop-key.key-index c.args.cold.now true c.loop-key-test.true c.loop-key.invariant (sym c.eq.ensures ∙ c.if-eq.true)

pub loop-key-preserved : goal.loop-key-preserved
loop-key-preserved c =
    ap (λ (n : ℕ). value_at credential_cmp (drop n c.args.entries.now) c.args.cold.now) (add-one c.loop-key.key-index)
    ∙ next c.args.entries.now c.loop-key.key-index c.args.cold.now false c.loop-key-test.true c.loop-key.invariant (sym c.eq.ensures ∙ c.if-eq.false)

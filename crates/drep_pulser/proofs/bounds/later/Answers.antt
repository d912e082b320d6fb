use Rattle.std.proofs.Common.{◌≡◌, true, false, ◌&&◌, option_map, ap, sym, ◌∙◌}
use Rattle.std.specs.Ordering.{is_lt}
use Rattle.gov_ids.specs.Derived.{credential_is}
use Rattle.gov_ids.specs.Orders.{credential_cmp}
use Rattle.maps.specs.Maps.{comes_past}
use Rattle.drep_pulser.proofs.Later.{past_later, past_other}
use Rattle.drep_pulser.proofs.bounds.later.Goals as goal

pub returns-then-is_lt : goal.returns-then-is_lt
returns-then-is_lt c = λ q.
    let x = c.in-Some-a.x in
    let y = c.in-Some.y.now in
    let before : is_lt (credential_cmp y x) ≡ true = sym (ap is_lt (c.cmp.ensures ∙ (λ i. credential_is i y x))) ∙ sym c.is_lt.ensures ∙ c.if-is_lt.true in
    past_later x y before q ∙ (λ i. comes_past credential_cmp (sym c.in-Some-a.is i) q && comes_past credential_cmp (option_map (λ k. k.now) (sym c.in-Some.is i)) q)

pub returns-else-is_lt : goal.returns-else-is_lt
returns-else-is_lt c = λ q.
    let x = c.in-Some-a.x in
    let y = c.in-Some.y.now in
    let before : is_lt (credential_cmp y x) ≡ false = sym (ap is_lt (c.cmp.ensures ∙ (λ i. credential_is i y x))) ∙ sym c.is_lt.ensures ∙ c.if-is_lt.false in
    past_other x y before q ∙ (λ i. comes_past credential_cmp (sym c.in-Some-a.is i) q && comes_past credential_cmp (option_map (λ k. k.now) (sym c.in-Some.is i)) q)

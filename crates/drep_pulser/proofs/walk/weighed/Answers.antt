use Rattle.std.proofs.Common.{◌≡◌, Option, Some, option_map, unwrap_or, ap, sym, ◌∙◌, arith}
use Rattle.std.specs.Option.{option_and_then}
use Rattle.gov_ids.specs.declared.Credential.{Credential}
use Rattle.gov_ids.specs.declared.Drep.{Drep}
use Rattle.gov_ids.specs.Derived.{credential_is}
use Rattle.book_records.specs.declared.Entry.{Entry}
use Rattle.book_records.specs.declared.Registered.{Registered}
use Rattle.maps.specs.Maps.{value_at}
use Rattle.drep_pulser.specs.Facts.{weight_by}
use Rattle.drep_pulser.specs.Visits.{drep_of}
use Rattle.drep_pulser.proofs.Kept.{weight_is}
use Rattle.drep_pulser.proofs.walk.weighed.Goals as goal

pub overflow_add-weight-2 : goal.overflow_add-weight-2
overflow_add-weight-2 c =
    let e : Credential × Entry = (c.args.c.now, c.args.entry.now) in
    let deposits = c.args.deposits.now in
    let weighs = weight_is e c.in_ok-registered.registered.now deposits c.get.result (sym c.in_ok-registered.ensures.value) (c.get.ensures.value ∙ (λ i. unwrap_or (value_at (credential_is i) deposits c.args.c.now) 0)) in
    omega (arith, weighs, c.requires)

pub returns : goal.returns
returns c =
    let e : Credential × Entry = (c.args.c.now, c.args.entry.now) in
    let deposits = c.args.deposits.now in
    let weighs = weight_is e c.in_ok-registered.registered.now deposits c.get.result (sym c.in_ok-registered.ensures.value) (c.get.ensures.value ∙ (λ i. unwrap_or (value_at (credential_is i) deposits c.args.c.now) 0)) in
    let votes : drep_of c.args.entry.now ≡ Some c.in_ok-drep.drep.now = ap (λ (x : Option Registered). option_and_then (λ (r : Registered). r.drep) x) (sym c.in_ok-registered.ensures.value) ∙ sym c.in_ok-drep.ensures.value in
    (λ i. Some (c.in_ok-drep.drep.now, weighs i)) ∙ ap (λ (x : Option Drep). option_map (λ d. (d, weight_by deposits e)) x) (sym votes)

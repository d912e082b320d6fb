use Rattle.std.proofs.Common.{◌≡◌, ◌+◌, ℕ, List, ap, subst, sym, ◌∙◌, arith}
use Rattle.gov_ids.specs.declared.Drep.{Drep}
use Rattle.gov_ids.specs.Orders.{drep_cmp}
use Rattle.gov_ids.specs.Same.{same_drep}
use Rattle.maps.proofs.Kept.{IsMap-changed_where}
use Rattle.maps.proofs.Placed.{changed_at_absent}
use Rattle.maps.specs.Maps.{IsMap, changed_at}
use Rattle.drep_pulser.specs.Count.{sum_for}
use Rattle.drep_pulser.specs.Places.{IsPlaceOf}
use Rattle.drep_pulser.proofs.Ordered.{sum_there, more_there}
use Rattle.drep_pulser.proofs.sums.Sums.add.Goals as goal

pub overflow_add-index_mut : goal.overflow_add-index_mut
overflow_add-index_mut c =
    let sums = c.self.inside.amounts.items in
    let d = c.args.d.now in
    let there = subst (λ (es : List (Drep × ℕ)). IsPlaceOf es d c.in-Some.place) (sym c.self.view_is) c.in-Some.ensures.there in
    let is : sum_for c.args.self.now d ≡ c.index_mut.result.now.1 =
    ap (λ (es : List (Drep × ℕ)). sum_for es d) (sym c.self.view_is) ∙ sum_there sums d c.in-Some.place c.index_mut.result.now c.self.invariant there c.index_mut.ensures.value in
    omega (arith, is, c.requires)

pub invariant_of-self : goal.invariant_of-self
invariant_of-self c =
    let sums = c.self.inside.amounts.items in
    let d = c.args.d.now in
    let there = subst (λ (es : List (Drep × ℕ)). IsPlaceOf es d c.in-Some.place) (sym c.self.view_is) c.in-Some.ensures.there in
    subst (λ (es : List (Drep × ℕ)). IsMap drep_cmp es) (sym (more_there sums d c.in-Some.place c.args.n c.index_mut.result.now c.self.invariant there c.index_mut.ensures.value))
    (IsMap-changed_where drep_cmp (λ q (s : ℕ). same_drep d q) (λ s. s + c.args.n) sums c.self.invariant)

pub returns-in-Some : goal.returns-in-Some
returns-in-Some c =
    let sums = c.self.inside.amounts.items in
    let d = c.args.d.now in
    let there = subst (λ (es : List (Drep × ℕ)). IsPlaceOf es d c.in-Some.place) (sym c.self.view_is) c.in-Some.ensures.there in
    more_there sums d c.in-Some.place c.args.n c.index_mut.result.now c.self.invariant there c.index_mut.ensures.value
    ∙ ap (λ (es : List (Drep × ℕ)). changed_at drep_cmp d (λ s. s + c.args.n) es) c.self.view_is

pub returns-in_default : goal.returns-in_default
returns-in_default c =
    let d = c.args.d.now in
    sym (changed_at_absent drep_cmp d (λ s. s + c.args.n) c.args.self.now c.in_default.ensures.absent)

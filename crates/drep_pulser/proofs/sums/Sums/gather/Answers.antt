use Rattle.std.proofs.Common.{◌+◌, ◌^◌, ◌<◌, ℕ, List, length, slice_index_or, ap, sym, subst, ◌∙◌, arith}
use Rattle.std.proofs.lemmas.List.{get_or_default}
use Rattle.gov_ids.specs.declared.Drep.{Drep}
use Rattle.gov_ids.specs.Orders.{drep_cmp}
use Rattle.maps.specs.Maps.{IsMap}
use Rattle.drep_pulser.specs.Count.{sum_for}
use Rattle.drep_pulser.specs.Parts.{by_drep, with_part}
use Rattle.drep_pulser.proofs.Parted.{fits_at, gathered, ordered_with}
use Rattle.drep_pulser.proofs.sums.Sums.gather.Goals as goal

pub overflow_add-index_mut : goal.overflow_add-index_mut
overflow_add-index_mut c =
    let sums = c.self.inside.amounts.items in
    let part = c.args.part.now in
    let e = c.index_mut.result.now in
    let place = c.loop-place.place in
    let n = slice_index_or part place 0 in
    let long = c.requires.length ∙ ap (λ (s : List (Drep × ℕ)). length s) (sym c.self.view_is) in
    let fit = subst (λ (s : List (Drep × ℕ)). (d : Drep) → sum_for s d + sum_for (by_drep s part) d < 2 ^ 64) (sym c.self.view_is) c.requires.fits in
    omega (arith, fits_at sums part long c.self.invariant fit place e n (omega (arith, long)) (c.index_mut.ensures.value ∙ c.loop-place.invariant.behind place e (omega arith)) (get_or_default part place 0 n c.loop-place-test.true))

pub invariant_of-self : goal.invariant_of-self
invariant_of-self c =
    let sums = c.self.inside.amounts.items in
    let part = c.args.part.now in
    let long = c.requires.length ∙ ap (λ (s : List (Drep × ℕ)). length s) (sym c.self.view_is) in
    subst (λ (s : List (Drep × ℕ)). IsMap drep_cmp s)
    (sym (gathered sums part long c.loop-place.self-inside.amounts.items c.loop-place.invariant.same (λ k e lt. c.loop-place.invariant.before k e (omega (arith, long, lt)))))
    (ordered_with sums part long c.self.invariant)

pub returns : goal.returns
returns c =
    let sums = c.self.inside.amounts.items in
    let part = c.args.part.now in
    let long = c.requires.length ∙ ap (λ (s : List (Drep × ℕ)). length s) (sym c.self.view_is) in
    gathered sums part long c.loop-place.self-inside.amounts.items c.loop-place.invariant.same (λ k e lt. c.loop-place.invariant.before k e (omega (arith, long, lt)))
    ∙ ap (λ (s : List (Drep × ℕ)). with_part part s) c.self.view_is

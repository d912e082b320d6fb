use Rattle.std.proofs.Common.{◌+◌, ℕ, List, length, ap, sym, ◌∙◌, arith}
use Rattle.gov_ids.specs.Orders.{drep_cmp}
use Rattle.maps.proofs.Placed.{changed_at_absent}
use Rattle.maps.specs.Maps.{changed_at}
use Rattle.drep_pulser.specs.Count.{sum_for}
use Rattle.drep_pulser.specs.Parts.{by_drep}
use Rattle.drep_pulser.proofs.Parted.{none_by, sum_by_place, more_by_place}
use Rattle.drep_pulser.proofs.part.Part.add.Goals as goal

pub overflow_add-index_mut : goal.overflow_add-index_mut
overflow_add-index_mut c =
    let sums = c.args.sums.now in
    let long = ap (λ (p : List ℕ). length p) c.self.view_is ∙ c.requires.length in
    let is = sum_by_place sums c.self.inside.amounts.items long c.place.ensures.in_order c.args.d.now c.in-Some.place c.in-Some.ensures.there c.index_mut.result.now c.index_mut.ensures.value in
    omega (arith, is, ap (λ (p : List ℕ). sum_for (by_drep sums p) c.args.d.now) c.self.view_is, c.requires.fits)

pub returns-in-Some-clause-sums : goal.returns-in-Some-clause-sums
returns-in-Some-clause-sums c =
    let sums = c.args.sums.now in
    let long = ap (λ (p : List ℕ). length p) c.self.view_is ∙ c.requires.length in
    more_by_place sums c.self.inside.amounts.items long c.place.ensures.in_order c.args.d.now c.in-Some.place c.in-Some.ensures.there c.index_mut.result.now c.index_mut.ensures.value c.args.n
    ∙ ap (λ (p : List ℕ). changed_at drep_cmp c.args.d.now (λ s. s + c.args.n) (by_drep sums p)) c.self.view_is

pub returns-in_default-clause-sums : goal.returns-in_default-clause-sums
returns-in_default-clause-sums c =
    let d = c.args.d.now in
    let sums = by_drep c.args.sums.now c.args.self.now in
    sym (changed_at_absent drep_cmp d (λ s. s + c.args.n) sums (none_by c.args.sums.now c.args.self.now d c.requires.length c.in_default.ensures.absent))

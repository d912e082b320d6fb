use Rattle.std.proofs.Common.{ℕ, List, ap, subst, sym, ◌∙◌}
use Rattle.gov_ids.specs.declared.Drep.{Drep}
use Rattle.drep_pulser.specs.Count.{sum_for}
use Rattle.drep_pulser.specs.Places.{IsPlaceOf}
use Rattle.drep_pulser.proofs.Ordered.{sum_there}
use Rattle.drep_pulser.proofs.sums.Sums.get.Goals as goal

pub returns-in-Some : goal.returns-in-Some
returns-in-Some c =
    let sums = c.self.inside.amounts.items in
    let d = c.args.d.now in
    let there = subst (λ (es : List (Drep × ℕ)). IsPlaceOf es d c.in-Some.place) (sym c.self.view_is) c.in-Some.ensures.there in
    sym (sum_there sums d c.in-Some.place c.index.result.now c.self.invariant there c.index.ensures) ∙ ap (λ (es : List (Drep × ℕ)). sum_for es d) c.self.view_is

use Rattle.std.proofs.Common.{◌≡◌, ap, sym, subst, arith}
use Rattle.drep_pulser.specs.Count.{Count, Ended}
use Rattle.drep_pulser.specs.Facts.{IsCountOf}
use Rattle.drep_pulser.proofs.Closing.{all_visited}
use Rattle.drep_pulser.proofs.counting.Counting.finish.Goals as goal

pub returns-clause-counts : goal.returns-clause-counts
returns-clause-counts g c = λ f p h.
    let before : IsCountOf f c.self.inside.walk = subst (λ (k : Count). IsCountOf f k) (sym c.self.view_is) h in
    let k : Count = c.advance.new.self in
    let whole : k.done ≡ k.total = omega (arith, c.advance.ensures.done, c.advance.ensures.total, c.total.ensures, c.done.ensures, c.requires.counts.done, ap (λ (k : Count). k.done) c.self.view_is, ap (λ (k : Count). k.total) c.self.view_is) in
    all_visited f k c.ended.result (c.advance.ensures.counts f p before) whole (ap (λ (r : Ended). r.total) c.ended.ensures) (ap (λ (r : Ended). r.sums) c.ended.ensures)

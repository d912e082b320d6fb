use Rattle.std.proofs.Common.{arith}
use Rattle.gov_ids.specs.declared.Credential.{Credential}
use Rattle.book_records.specs.declared.Entry.{Entry}
use Rattle.std.proofs.Common.{sym, subst}
use Rattle.drep_pulser.specs.Count.{Count}
use Rattle.drep_pulser.specs.Facts.{weight_by}
use Rattle.drep_pulser.specs.Visits.{IsNextIn, drep_of}
use Rattle.drep_pulser.proofs.Kept.{weight_fits, sum_fits, weighed_as}
use Rattle.drep_pulser.proofs.walk.Walk.visit.Goals as goal

pub weighed-requires : goal.weighed-requires
weighed-requires c =
    let e : Credential × Entry = (c.args.c.now, c.args.entry.now) in
    let next = subst (λ (k : Count). IsNextIn e k) (sym c.self.view_is) c.requires in
    weight_fits next.0 _ next.1 e next.2

pub add-requires : goal.add-requires
add-requires c =
    let e : Credential × Entry = (c.args.c.now, c.args.entry.now) in
    let next = subst (λ (k : Count). IsNextIn e k) (sym c.self.view_is) c.requires in
    let weighs = weighed_as (drep_of c.args.entry.now) (weight_by c.self.inside.deposits e) c.in-Some.drep.now c.in-Some.weight c.in-Some.ensures in
    omega (arith, weighs, sum_fits next.0 _ next.1 e next.2 c.in-Some.drep.now)

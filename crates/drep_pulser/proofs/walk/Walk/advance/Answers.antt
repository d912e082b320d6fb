use Rattle.std.proofs.Common.{◌≡◌, List, drop, slice_get, refl, ap, sym, subst, ◌∙◌, arith}
use Rattle.std.proofs.lemmas.Option.{slice_get_within}
use Rattle.gov_ids.specs.declared.Credential.{Credential}
use Rattle.gov_ids.specs.Orders.{credential_cmp}
use Rattle.book_records.specs.declared.Entry.{Entry}
use Rattle.snapshots.specs.of_gov_model.Snapshot.{Snapshot}
use Rattle.view_map.specs.View.{frozen_of}
use Rattle.drep_pulser.specs.Count.{Count}
use Rattle.drep_pulser.specs.Facts.{IsCountIn, IsCountOf, weight_by}
use Rattle.drep_pulser.specs.Parts.{no_part}
use Rattle.drep_pulser.specs.Visits.{drep_of, visited}
use Rattle.drep_pulser.proofs.Advance.{left_of, next_left, rest_left, none_left}
use Rattle.drep_pulser.proofs.Kept.{count_kept, count_of_kept, same_part}
use Rattle.drep_pulser.proofs.walk.Walk.advance.Goals as goal

pub loop-visit-init : goal.loop-visit-init
loop-visit-init g c = record {
  left = c.frozen_past-entries.ensures ∙ left_of _ c.args.self.now c.as_ref.result c.requires.counts (c.as_ref.ensures.value ∙ ap (λ (k : Count). k.cursor) c.self.view_is);
  counts = λ f p h. h;
  counts_in = c.requires.counts;
  done = omega arith;
  total = refl;
  workers = refl;
  parts = refl;
  steps = omega arith;
}

pub returns-in_default-clause-done : goal.returns-in_default-clause-done
returns-in_default-clause-done g c =
    omega (arith, none_left (frozen_of credential_cmp c.args.book.now) c.loop-visit.self.done c.loop-visit.entries c.loop-visit.invariant.left c.in_default.ensures.0)

pub returns-in_default-clause-steps : goal.returns-in_default-clause-steps
returns-in_default-clause-steps g c =
    omega (arith, none_left (frozen_of credential_cmp c.args.book.now) c.loop-visit.self.done c.loop-visit.entries c.loop-visit.invariant.left c.in_default.ensures.0)

pub visit-requires : goal.visit-requires
visit-requires g c =
    let es : List (Credential × Entry) = frozen_of credential_cmp c.args.book.now in
    (es, c.loop-visit.invariant.counts_in, next_left es c.loop-visit.self.done _ c.loop-visit.invariant.left _ _ c.in-Some.ensures)

pub tick-requires : goal.tick-requires
tick-requires g c =
    let es : List (Credential × Entry) = frozen_of credential_cmp c.args.book.now in
    omega (arith, slice_get_within es c.loop-visit.self.done _ (next_left es c.loop-visit.self.done _ c.loop-visit.invariant.left _ _ c.in-Some.ensures))

pub loop-visit-preserved : goal.loop-visit-preserved
loop-visit-preserved g c =
    let e : Credential × Entry = (c.in-Some.c.now, c.in-Some.entry.now) in
    let es : List (Credential × Entry) = frozen_of credential_cmp c.args.book.now in
    let next = next_left es c.loop-visit.self.done _ c.loop-visit.invariant.left e _ c.in-Some.ensures in
    let is : c.visit.new.self ≡ visited e c.loop-visit.self = c.visit.ensures in
    record {
      left = rest_left es c.loop-visit.self.done _ c.loop-visit.invariant.left e _ c.in-Some.ensures ∙ ap (λ (k : Count). drop k.done es) (sym is);
      counts = λ (f : Snapshot) (p : f.entries ≡ es) (h : IsCountOf f c.args.self.now).
          subst (λ (k : Count). IsCountOf f k) (sym is)
          (count_of_kept f c.loop-visit.self (c.loop-visit.invariant.counts f p h) e (ap (λ (es : List (Credential × Entry)). slice_get es c.loop-visit.self.done) p ∙ next));
      counts_in = subst (λ (k : Count). IsCountIn es k) (sym is) (count_kept es c.loop-visit.self c.loop-visit.invariant.counts_in e next);
      done = omega (arith, ap (λ (k : Count). k.done) is);
      total = ap (λ (k : Count). k.total) is ∙ c.loop-visit.invariant.total;
      workers = ap (λ (k : Count). k.workers) is ∙ c.loop-visit.invariant.workers;
      parts = ap (λ (k : Count). no_part k.sums) is ∙ same_part (drep_of e.1) (weight_by c.loop-visit.self.deposits e) c.loop-visit.self.sums ∙ c.loop-visit.invariant.parts;
      steps = omega arith;
    }

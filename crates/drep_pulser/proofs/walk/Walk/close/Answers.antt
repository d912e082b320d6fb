use Rattle.std.proofs.Common.{◌≡◌, ◌+◌, ◌<◌, ℕ, List, drop, length, slice_index_or, ap, sym, ◌∙◌, arith}
use Rattle.std.specs.Map.{keys_of}
use Rattle.gov_ids.specs.declared.Drep.{Drep}
use Rattle.drep_pulser.specs.Count.{Count, Ended, sum_for}
use Rattle.drep_pulser.specs.Parts.{by_drep, sum_with, with_part}
use Rattle.drep_pulser.proofs.Closing.{all_counted, all_fit, all_taken, as_many, taken_in, within_parts}
use Rattle.drep_pulser.proofs.Parted.{keys_with}
use Rattle.drep_pulser.proofs.walk.Walk.close.Goals as goal

pub gather-requires-clause-fits : goal.gather-requires-clause-fits
gather-requires-clause-fits c = λ d.
    let sums = c.loop-part.self-inside.sums in
    let parts = c.deref-part-items.result.now in
    let whole : sum_with parts c.self.inside.sums d ≡ sum_with c.args.parts.items c.args.self.sums d = λ i. sum_with (c.deref-part-items.ensures.value i) (c.self.view_is i).sums d in
    omega (
      arith,
      ap (λ (p : List ℕ). sum_for (by_drep sums p) d) c.as_slice.ensures,
      within_parts sums parts c.loop-part.part-index c.part-item.result d c.loop-part-test.true c.part-item.is,
      c.loop-part.invariant.sums d,
      whole,
      all_fit c.requires.shared.0 c.args.self c.args.parts.items c.requires.shared.1 d,
    )

pub loop-part-preserved : goal.loop-part-preserved
loop-part-preserved c =
    let sums = c.loop-part.self-inside.sums in
    let parts = c.deref-part-items.result.now in
    let i = c.loop-part.part-index in
    let part = c.part-item.result in
    let keys = c.loop-part.invariant.keys ∙ ap (λ (k : Count). keys_of k.sums) c.self.view_is in
    let same : slice_index_or parts i part ≡ slice_index_or c.args.parts.items i part = ap (λ (ps : List (List ℕ)). slice_index_or ps i part) c.deref-part-items.ensures.value in
    let within : i < length c.args.parts.items = omega (arith, ap (λ (ps : List (List ℕ)). length ps) c.deref-part-items.ensures.value, c.loop-part-test.true) in
    let long : length part ≡ length sums = ap (λ (p : List ℕ). length p) (c.part-item.is ∙ same) ∙ c.requires.each i part within ∙ sym (as_many sums c.args.self.sums keys) in
    let is : c.gather.new.self ≡ with_part part sums = c.gather.ensures ∙ ap (λ (p : List ℕ). with_part p sums) c.as_slice.ensures in
    record {
      keys = ap (λ (s : List (Drep × ℕ)). keys_of s) is ∙ keys_with sums part long ∙ c.loop-part.invariant.keys;
      sums = λ d. ap (λ (s : List (Drep × ℕ)). sum_with (drop (i + 1) parts) s d) is ∙ taken_in sums parts i part d c.loop-part-test.true c.part-item.is long ∙ c.loop-part.invariant.sums d;
      total = c.loop-part.invariant.total;
    }

pub returns-clause-counts : goal.returns-clause-counts
returns-clause-counts c = λ f counts shared.
    let sums = c.loop-part.self-inside.sums in
    let parts = c.deref-part-items.result.now in
    all_counted f c.args.self c.args.parts.items c.ended.result counts shared
    (ap (λ (r : Ended). r.total) c.ended.ensures ∙ c.loop-part.invariant.total ∙ ap (λ (k : Count). k.total) c.self.view_is)
    (λ d. ap (λ (r : Ended). sum_for r.sums d) c.ended.ensures
    ∙ all_taken sums parts c.loop-part.part-index d c.loop-part-test.false
    ∙ c.loop-part.invariant.sums d
    ∙ (λ i. sum_with (c.deref-part-items.ensures.value i) (c.self.view_is i).sums d))

use Rattle.std.proofs.Common.{option_map, ap, ◌∙◌}
use Rattle.std.specs.Bound.{bound_map}
use Rattle.view_map.specs.Marks.{Marks, unchanged_in}
use Rattle.view_map.specs.View.{View}
use Rattle.view_map.specs.Walk.{entries_past, merged}
use Rattle.view_map.proofs.Walk.{past_range, frozen_past}
use Rattle.view_map.proofs.ViewMap.frozen_past.Goals as goal

pub returns : goal.returns
returns g c =
    let m : Marks g.row.K.Denot g.row.V.Denot = record { live = c.self.inside.live.entries; kept = c.self.inside.kept.entries; mark = c.self.inside.mark; frozen_len = c.self.inside.frozen_len } in
    let after = option_map (λ k. k.now) c.args.after in
    let live = past_range g.K.Ord.cmp after _ _ _ _ c.keys_past.ensures.start (ap (bound_map (λ k. k.now)) c.keys_past.ensures.end) (c.range-live.ensures.between tt) in
    let kept = past_range g.K.Ord.cmp after _ _ _ _ c.keys_past-2.ensures.start (ap (bound_map (λ k. k.now)) c.keys_past-2.ensures.end) (c.range-kept.ensures.between tt) in
    c.new.ensures ∙ (λ i. merged g.K.Ord.cmp (kept i) (unchanged_in m.mark (live i))) ∙ frozen_past g.met.K.Ord.total after m.mark m.live m.kept c.self.invariant.live c.self.invariant.kept
    ∙ ap (λ (v : View g.row.K.Denot g.row.V.Denot). entries_past g.K.Ord.cmp after v.frozen) c.self.view_is

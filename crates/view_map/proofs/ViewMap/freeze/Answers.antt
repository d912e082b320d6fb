use Rattle.std.proofs.Common.{ap, ◌∙◌}
use Rattle.view_map.specs.Marks.{Marks}
use Rattle.view_map.specs.View.{View}
use Rattle.view_map.proofs.Kept.{frozen-changed}
use Rattle.view_map.proofs.ViewMap.freeze.Goals as goal

pub returns : goal.returns
returns g c =
    let m : Marks g.row.K.Denot g.row.V.Denot = record { live = c.self.inside.live.entries; kept = c.self.inside.kept.entries; mark = c.self.inside.mark; frozen_len = c.self.inside.frozen_len } in
    (frozen-changed g.met.K.Ord.total m c.self.invariant c.next_mark-self-inside.new.live.entries c.clear.new.self.entries c.next_mark-self-inside.result c.len.result c.next_mark-self-inside.ensures.values c.next_mark-self-inside.ensures.marks c.clear.ensures.empty c.len.ensures.len).0
    ∙ ap (λ (v : View g.row.K.Denot g.row.V.Denot). record v { frozen = v.live }) c.self.view_is

pub invariant_of-self : goal.invariant_of-self
invariant_of-self g c =
    let m : Marks g.row.K.Denot g.row.V.Denot = record { live = c.self.inside.live.entries; kept = c.self.inside.kept.entries; mark = c.self.inside.mark; frozen_len = c.self.inside.frozen_len } in
    (frozen-changed g.met.K.Ord.total m c.self.invariant c.next_mark-self-inside.new.live.entries c.clear.new.self.entries c.next_mark-self-inside.result c.len.result c.next_mark-self-inside.ensures.values c.next_mark-self-inside.ensures.marks c.clear.ensures.empty c.len.ensures.len).1

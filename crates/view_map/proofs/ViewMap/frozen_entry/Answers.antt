use Rattle.std.proofs.Common.{Option, ap, sym, ◌∙◌}
use Rattle.std.specs.Option.{option_or}
use Rattle.view_map.specs.Marks.{Marks, unchanged_in}
use Rattle.view_map.specs.View.{View, entry_at}
use Rattle.view_map.proofs.Kept.{frozen_at}
use Rattle.view_map.proofs.ViewMap.frozen_entry.Goals as goal

pub returns-in-Some : goal.returns-in-Some
returns-in-Some g c =
    let m : Marks g.row.K.Denot g.row.V.Denot = record { live = c.self.inside.live.entries; kept = c.self.inside.kept.entries; mark = c.self.inside.mark; frozen_len = c.self.inside.frozen_len } in
    ap (λ (s : Option (g.row.K.Denot × g.row.V.Denot)). option_or s (entry_at g.K.Ord.cmp (unchanged_in m.mark m.live) c.args.k.now)) c.in-Some.ensures
    ∙ sym (frozen_at g.met.K.Ord.total m c.self.invariant c.args.k.now) ∙ ap (λ (v : View g.row.K.Denot g.row.V.Denot). entry_at g.K.Ord.cmp v.frozen c.args.k.now) c.self.view_is

pub returns-in-None : goal.returns-in-None
returns-in-None g c =
    let m : Marks g.row.K.Denot g.row.V.Denot = record { live = c.self.inside.live.entries; kept = c.self.inside.kept.entries; mark = c.self.inside.mark; frozen_len = c.self.inside.frozen_len } in
    c.unchanged_at.ensures
    ∙ ap (λ (s : Option (g.row.K.Denot × g.row.V.Denot)). option_or s (entry_at g.K.Ord.cmp (unchanged_in m.mark m.live) c.args.k.now)) c.in-None.ensures
    ∙ sym (frozen_at g.met.K.Ord.total m c.self.invariant c.args.k.now) ∙ ap (λ (v : View g.row.K.Denot g.row.V.Denot). entry_at g.K.Ord.cmp v.frozen c.args.k.now) c.self.view_is

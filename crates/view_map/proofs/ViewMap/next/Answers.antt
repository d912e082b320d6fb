use Rattle.std.proofs.Common.{ℕ, List, Option, option_map, slice_get, ap, sym, ◌∙◌}
use Rattle.std.specs.Bound.{bound_map}
use Rattle.maps.proofs.Next.{entry_after-range}
use Rattle.maps.specs.Maps.{entry_after}
use Rattle.view_map.specs.Marks.{Marks}
use Rattle.view_map.specs.View.{View}
use Rattle.view_map.proofs.Walk.{entry_after-values}
use Rattle.view_map.proofs.ViewMap.next.Goals as goal

pub returns-in_err-k : goal.returns-in_err-k
returns-in_err-k g c =
    let m : Marks g.row.K.Denot g.row.V.Denot = record { live = c.self.inside.live.entries; kept = c.self.inside.kept.entries; mark = c.self.inside.mark; frozen_len = c.self.inside.frozen_len } in
    let after = option_map (λ k. k.now) c.args.after in
    c.from_residual.ensures ∙ ap (λ (x : Option (g.row.K.Denot × (g.row.V.Denot × ℕ))). option_map (λ (e : g.row.K.Denot × (g.row.V.Denot × ℕ)). (e.0, e.1.0)) x)
    (sym (ap (λ (es : List (g.row.K.Denot × (g.row.V.Denot × ℕ))). slice_get es 0) c.in_err-k.ensures.steps.0)
    ∙ entry_after-range g.K.Ord.cmp _ _ _ _ _ c.keys_past.ensures.start (ap (bound_map (λ k. k.now)) c.keys_past.ensures.end) (c.range.ensures.between tt))
    ∙ sym (entry_after-values g.K.Ord.cmp after m.live)
    ∙ ap (λ (v : View g.row.K.Denot g.row.V.Denot). entry_after g.K.Ord.cmp after v.live) c.self.view_is

pub returns : goal.returns
returns g c =
    let m : Marks g.row.K.Denot g.row.V.Denot = record { live = c.self.inside.live.entries; kept = c.self.inside.kept.entries; mark = c.self.inside.mark; frozen_len = c.self.inside.frozen_len } in
    let after = option_map (λ k. k.now) c.args.after in
    ap (λ (x : Option (g.row.K.Denot × (g.row.V.Denot × ℕ))). option_map (λ (e : g.row.K.Denot × (g.row.V.Denot × ℕ)). (e.0, e.1.0)) x)
    (sym (ap (λ (es : List (g.row.K.Denot × (g.row.V.Denot × ℕ))). slice_get es 0) c.in_ok-k.ensures.steps)
    ∙ entry_after-range g.K.Ord.cmp _ _ _ _ _ c.keys_past.ensures.start (ap (bound_map (λ k. k.now)) c.keys_past.ensures.end) (c.range.ensures.between tt))
    ∙ sym (entry_after-values g.K.Ord.cmp after m.live)
    ∙ ap (λ (v : View g.row.K.Denot g.row.V.Denot). entry_after g.K.Ord.cmp after v.live) c.self.view_is

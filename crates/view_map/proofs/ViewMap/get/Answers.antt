use Rattle.std.proofs.Common.{ℕ, Option, option_map, ap, sym, subst, ◌∙◌}
use Rattle.std.specs.BTreeMap.{is_at}
use Rattle.std.proofs.lemmas.Map.Made.{lookup-map_values}
use Rattle.maps.specs.Maps.{value_at}
use Rattle.view_map.specs.Marks.{Marks}
use Rattle.view_map.specs.View.{View, IsInOrder}
use Rattle.view_map.proofs.Kept.{in_order}
use Rattle.view_map.proofs.ViewMap.get.Goals as goal

pub returns-in-Some-clause-value : goal.returns-in-Some-clause-value
returns-in-Some-clause-value g c =
    let m : Marks g.row.K.Denot g.row.V.Denot = record { live = c.self.inside.live.entries; kept = c.self.inside.kept.entries; mark = c.self.inside.mark; frozen_len = c.self.inside.frozen_len } in
    ap (λ (x : Option (g.row.V.Denot × ℕ)). option_map (λ (w : g.row.V.Denot × ℕ). w.0) x) c.in-Some.ensures.value
    ∙ sym (lookup-map_values (λ (w : g.row.V.Denot × ℕ). w.0) (is_at (g.K.Ord.cmp c.args.k.now)) m.live)
    ∙ ap (λ (v : View g.row.K.Denot g.row.V.Denot). value_at g.K.Ord.cmp v.live c.args.k.now) c.self.view_is

pub returns-in-Some-clause-in_order : goal.returns-in-Some-clause-in_order
returns-in-Some-clause-in_order g c =
    let m : Marks g.row.K.Denot g.row.V.Denot = record { live = c.self.inside.live.entries; kept = c.self.inside.kept.entries; mark = c.self.inside.mark; frozen_len = c.self.inside.frozen_len } in
    subst (λ (v : View g.row.K.Denot g.row.V.Denot). IsInOrder g.K.Ord.cmp v) c.self.view_is (in_order g.met.K.Ord.total m c.self.invariant)

pub returns-in-None-clause-value : goal.returns-in-None-clause-value
returns-in-None-clause-value g c =
    let m : Marks g.row.K.Denot g.row.V.Denot = record { live = c.self.inside.live.entries; kept = c.self.inside.kept.entries; mark = c.self.inside.mark; frozen_len = c.self.inside.frozen_len } in
    ap (λ (x : Option (g.row.V.Denot × ℕ)). option_map (λ (w : g.row.V.Denot × ℕ). w.0) x) c.in-None.ensures.value
    ∙ sym (lookup-map_values (λ (w : g.row.V.Denot × ℕ). w.0) (is_at (g.K.Ord.cmp c.args.k.now)) m.live)
    ∙ ap (λ (v : View g.row.K.Denot g.row.V.Denot). value_at g.K.Ord.cmp v.live c.args.k.now) c.self.view_is

pub returns-in-None-clause-in_order : goal.returns-in-None-clause-in_order
returns-in-None-clause-in_order g c =
    let m : Marks g.row.K.Denot g.row.V.Denot = record { live = c.self.inside.live.entries; kept = c.self.inside.kept.entries; mark = c.self.inside.mark; frozen_len = c.self.inside.frozen_len } in
    subst (λ (v : View g.row.K.Denot g.row.V.Denot). IsInOrder g.K.Ord.cmp v) c.self.view_is (in_order g.met.K.Ord.total m c.self.invariant)

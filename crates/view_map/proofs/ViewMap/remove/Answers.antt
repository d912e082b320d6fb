use Rattle.std.proofs.Common.{◌≡◌, ℕ, List, Option, Some, option_map, unwrap_or, ap, sym, ◌∙◌}
use Rattle.std.specs.BTreeMap.{is_at}
use Rattle.std.proofs.lemmas.Map.Made.{lookup-map_values}
use Rattle.maps.proofs.Lookups.{without_key_absent}
use Rattle.maps.specs.Maps.{value_at, without_key}
use Rattle.view_map.specs.Marks.{Marks}
use Rattle.view_map.specs.View.{View, key_in}
use Rattle.view_map.proofs.Kept.{gone-changed}
use Rattle.view_map.proofs.ViewMap.remove.Goals as goal

pub returns-in_default-clause-value : goal.returns-in_default-clause-value
returns-in_default-clause-value g c =
    ap (λ (x : Option (g.row.V.Denot × ℕ)). option_map (λ (w : g.row.V.Denot × ℕ). w.0) x) c.in_default.ensures.value
    ∙ sym (lookup-map_values (λ (w : g.row.V.Denot × ℕ). w.0) (is_at (g.K.Ord.cmp c.args.k.now)) c.self.inside.live.entries)
    ∙ ap (λ (v : View g.row.K.Denot g.row.V.Denot). value_at g.K.Ord.cmp v.live c.args.k.now) c.self.view_is

pub returns-in_default-clause-ok : goal.returns-in_default-clause-ok
returns-in_default-clause-ok g c =
    let now : View g.row.K.Denot g.row.V.Denot = c.args.self.now in
    ap (λ (es : List (g.row.K.Denot × g.row.V.Denot)). record now { live = es }) (sym (without_key_absent g.K.Ord.cmp c.args.k.now now.live (sym (returns-in_default-clause-value g c))))

pub invariant_of-self-2 : goal.invariant_of-self-2
invariant_of-self-2 g c =
    let m : Marks g.row.K.Denot g.row.V.Denot = record { live = c.self.inside.live.entries; kept = c.self.inside.kept.entries; mark = c.self.inside.mark; frozen_len = c.self.inside.frozen_len } in
    let key : c.in-Some.key.now ≡ key_in g.K.Ord.cmp m.live c.args.k.now = ap (λ (x : Option g.row.K.Denot). unwrap_or x c.args.k.now) c.in-Some.ensures.key in
    (gone-changed g.met.K.Ord.total c.args.k.now c.in-Some.key.now (Some c.in-Some.entry.now) m c.self.invariant c.remove.new.self.entries c.keep.new.kept.entries
    c.remove.ensures.entries key c.in-Some.ensures.value c.in_ok-keep.ensures.ok).1

pub returns-clause-value : goal.returns-clause-value
returns-clause-value g c =
    ap (λ (x : Option (g.row.V.Denot × ℕ)). option_map (λ (w : g.row.V.Denot × ℕ). w.0) x) c.in-Some.ensures.value
    ∙ sym (lookup-map_values (λ (w : g.row.V.Denot × ℕ). w.0) (is_at (g.K.Ord.cmp c.args.k.now)) c.self.inside.live.entries)
    ∙ ap (λ (v : View g.row.K.Denot g.row.V.Denot). value_at g.K.Ord.cmp v.live c.args.k.now) c.self.view_is

pub returns-clause-ok : goal.returns-clause-ok
returns-clause-ok g c =
    let m : Marks g.row.K.Denot g.row.V.Denot = record { live = c.self.inside.live.entries; kept = c.self.inside.kept.entries; mark = c.self.inside.mark; frozen_len = c.self.inside.frozen_len } in
    let key : c.in-Some.key.now ≡ key_in g.K.Ord.cmp m.live c.args.k.now = ap (λ (x : Option g.row.K.Denot). unwrap_or x c.args.k.now) c.in-Some.ensures.key in
    (gone-changed g.met.K.Ord.total c.args.k.now c.in-Some.key.now (Some c.in-Some.entry.now) m c.self.invariant c.remove.new.self.entries c.keep.new.kept.entries
    c.remove.ensures.entries key c.in-Some.ensures.value c.in_ok-keep.ensures.ok).0
    ∙ ap (λ (v : View g.row.K.Denot g.row.V.Denot). record v { live = without_key g.K.Ord.cmp c.args.k.now v.live }) c.self.view_is

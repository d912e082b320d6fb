use Rattle.std.proofs.Common.{◌≡◌, ℕ, List, Option, option_map, rules, ap, sym, subst, ◌∙◌}
use Rattle.std.specs.BTreeMap.{is_at}
use Rattle.std.proofs.lemmas.Map.Made.{lookup-map_values}
use Rattle.maps.specs.Maps.{value_at}
use Rattle.maps.specs.Replaced.{with_option}
use Rattle.view_map.specs.Marks.{Marks}
use Rattle.view_map.specs.View.{View}
use Rattle.view_map.proofs.Kept.{all-changed}
use Rattle.view_map.proofs.ViewMap.change.Goals as goal

pub change_in-requires : goal.change_in-requires
change_in-requires g c =
    let live : List (g.row.K.Denot × (g.row.V.Denot × ℕ)) = c.self.inside.live.entries in
    let seen : option_map (λ (w : g.row.V.Denot × ℕ). w.0) (value_at g.K.Ord.cmp live c.args.k) ≡ value_at g.K.Ord.cmp c.args.self.now.live c.args.k =
    sym (lookup-map_values (λ (w : g.row.V.Denot × ℕ). w.0) (is_at (g.K.Ord.cmp c.args.k)) live) ∙ ap (λ (v : View g.row.K.Denot g.row.V.Denot). value_at g.K.Ord.cmp v.live c.args.k) c.self.view_is in
    subst (λ (o : Option g.row.V.Denot). g.S.Follower.can_follow c.args.follower.now c.args.by.now o) (sym seen) c.requires

pub returns-clause-value : goal.returns-clause-value
returns-clause-value g c =
    let live : List (g.row.K.Denot × (g.row.V.Denot × ℕ)) = c.self.inside.live.entries in
    let seen : option_map (λ (w : g.row.V.Denot × ℕ). w.0) (value_at g.K.Ord.cmp live c.args.k) ≡ value_at g.K.Ord.cmp c.args.self.now.live c.args.k =
    sym (lookup-map_values (λ (w : g.row.V.Denot × ℕ). w.0) (is_at (g.K.Ord.cmp c.args.k)) live) ∙ ap (λ (v : View g.row.K.Denot g.row.V.Denot). value_at g.K.Ord.cmp v.live c.args.k) c.self.view_is in
    c.in_ok-before.ensures.value ∙ seen

pub returns-clause-ok : goal.returns-clause-ok
returns-clause-ok g c =
    let live : List (g.row.K.Denot × (g.row.V.Denot × ℕ)) = c.self.inside.live.entries in
    let seen : option_map (λ (w : g.row.V.Denot × ℕ). w.0) (value_at g.K.Ord.cmp live c.args.k) ≡ value_at g.K.Ord.cmp c.args.self.now.live c.args.k =
    sym (lookup-map_values (λ (w : g.row.V.Denot × ℕ). w.0) (is_at (g.K.Ord.cmp c.args.k)) live) ∙ ap (λ (v : View g.row.K.Denot g.row.V.Denot). value_at g.K.Ord.cmp v.live c.args.k) c.self.view_is in
    let m : Marks g.row.K.Denot g.row.V.Denot = record { live = live; kept = c.self.inside.kept.entries; mark = c.self.inside.mark; frozen_len = c.self.inside.frozen_len } in
    let after : Option g.row.V.Denot = g.S.Follower.value_after c.args.by.now (option_map (λ (w : g.row.V.Denot × ℕ). w.0) (value_at g.K.Ord.cmp live c.args.k)) in
    let now : View g.row.K.Denot g.row.V.Denot = c.args.self.now in
    (all-changed g.met.K.Ord.total c.args.k after m c.self.invariant c.change_in.new.live.entries c.change_in.new.kept.entries c.in_ok-before.ensures.live c.in_ok-before.ensures.kept).0
    ∙ ap (λ (v : View g.row.K.Denot g.row.V.Denot). record v { live = with_option g.K.Ord.cmp c.args.k after v.live }) c.self.view_is
    ∙ ap (λ (o : Option g.row.V.Denot). record now { live = with_option g.K.Ord.cmp c.args.k (g.S.Follower.value_after c.args.by.now o) now.live }) seen

pub returns-clause-follower : goal.returns-clause-follower
returns-clause-follower g c =
    let live : List (g.row.K.Denot × (g.row.V.Denot × ℕ)) = c.self.inside.live.entries in
    let seen : option_map (λ (w : g.row.V.Denot × ℕ). w.0) (value_at g.K.Ord.cmp live c.args.k) ≡ value_at g.K.Ord.cmp c.args.self.now.live c.args.k =
    sym (lookup-map_values (λ (w : g.row.V.Denot × ℕ). w.0) (is_at (g.K.Ord.cmp c.args.k)) live) ∙ ap (λ (v : View g.row.K.Denot g.row.V.Denot). value_at g.K.Ord.cmp v.live c.args.k) c.self.view_is in
    subst (λ (o : Option g.row.V.Denot). g.S.Follower.has_followed c.args.follower.now o (g.S.Follower.value_after c.args.by.now o) c.change_in.new.follower) seen c.in_ok-before.ensures.follower

pub invariant_of-self-2 : goal.invariant_of-self-2
invariant_of-self-2 g c =
    let live : List (g.row.K.Denot × (g.row.V.Denot × ℕ)) = c.self.inside.live.entries in
    let m : Marks g.row.K.Denot g.row.V.Denot = record { live = live; kept = c.self.inside.kept.entries; mark = c.self.inside.mark; frozen_len = c.self.inside.frozen_len } in
    let after : Option g.row.V.Denot = g.S.Follower.value_after c.args.by.now (option_map (λ (w : g.row.V.Denot × ℕ). w.0) (value_at g.K.Ord.cmp live c.args.k)) in
    (all-changed g.met.K.Ord.total c.args.k after m c.self.invariant c.change_in.new.live.entries c.change_in.new.kept.entries c.in_ok-before.ensures.live c.in_ok-before.ensures.kept).1

pub returns-in_err-before-clause-follower_err : goal.returns-in_err-before-clause-follower_err
returns-in_err-before-clause-follower_err g c =
    let live : List (g.row.K.Denot × (g.row.V.Denot × ℕ)) = c.self.inside.live.entries in
    let seen : option_map (λ (w : g.row.V.Denot × ℕ). w.0) (value_at g.K.Ord.cmp live c.args.k) ≡ value_at g.K.Ord.cmp c.args.self.now.live c.args.k =
    sym (lookup-map_values (λ (w : g.row.V.Denot × ℕ). w.0) (is_at (g.K.Ord.cmp c.args.k)) live) ∙ ap (λ (v : View g.row.K.Denot g.row.V.Denot). value_at g.K.Ord.cmp v.live c.args.k) c.self.view_is in
    let none : g.S.Follower.has_followed c.args.follower.now (value_at g.K.Ord.cmp c.args.self.now.live c.args.k) (value_at g.K.Ord.cmp c.args.self.now.live c.args.k) c.change_in.new.follower =
    subst (λ (o : Option g.row.V.Denot). g.S.Follower.has_followed c.args.follower.now o o c.change_in.new.follower) seen c.in_err-before.ensures.follower_err in
    search rules

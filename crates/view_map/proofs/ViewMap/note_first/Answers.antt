use Rattle.std.proofs.Common.{◌≡◌, ℕ, ◌+◌, List, Option, cond, is_some, option_map, unwrap_or, ap, sym, ◌∙◌, arith}
use Rattle.maps.specs.Maps.{has_key}
use Rattle.maps.specs.Replaced.{with_option}
use Rattle.view_map.specs.Marks.{Marks, unchanged_in}
use Rattle.view_map.specs.View.{View, entry_at, key_in}
use Rattle.view_map.specs.Walk.{merged}
use Rattle.view_map.proofs.Entries.{key_of-entry, some_entry}
use Rattle.view_map.proofs.Kept.{noted-changed, some_length}
use Rattle.view_map.proofs.ViewMap.note_first.Goals as goal

pub invariant_of-self-2 : goal.invariant_of-self-2
invariant_of-self-2 g c =
    let m : Marks g.row.K.Denot g.row.V.Denot = record { live = c.self.inside.live.entries; kept = c.self.inside.kept.entries; mark = c.self.inside.mark; frozen_len = c.self.inside.frozen_len } in
    let all : List (g.row.K.Denot × g.row.V.Denot) = merged g.K.Ord.cmp m.kept (unchanged_in m.mark m.live) in
    let there : c.frozen_entry-frozen.result ≡ entry_at g.K.Ord.cmp all c.args.k =
    c.frozen_entry-frozen.ensures ∙ ap (λ (v : View g.row.K.Denot g.row.V.Denot). entry_at g.K.Ord.cmp v.frozen c.args.k) (sym c.self.view_is) in
    let key : c.key_or-key.result ≡ key_in g.K.Ord.cmp all c.args.k =
    c.key_or-key.ensures ∙ ap (λ (r : Option (g.row.K.Denot × g.row.V.Denot)). unwrap_or (option_map (λ (e : g.row.K.Denot × g.row.V.Denot). e.0) r) c.args.k) there ∙ sym (key_of-entry g.K.Ord.cmp all c.args.k) in
    let had : is_some c.frozen_entry-frozen.result ≡ has_key g.K.Ord.cmp all c.args.k =
    ap (λ (r : Option (g.row.K.Denot × g.row.V.Denot)). is_some r) there ∙ sym (some_entry g.K.Ord.cmp all c.args.k) in
    let count : c.in-Some.len + cond (has_key g.K.Ord.cmp all c.args.k) 1 0 ≡ m.frozen_len + cond (is_some c.args.first) 1 0 =
    omega (arith, c.in-Some.ensures.1, c.count.ensures, ap {B = ℕ} (λ b. cond b 1 0) had, c.count-2.ensures, some_length g.K.Ord.cmp c.args.k all, c.self.invariant.counted) in
    (noted-changed g.met.K.Ord.total c.args.k c.args.first m c.self.invariant c.mark_changed.new.live.entries c.set_kept.new.kept.entries c.key_or-key.result c.in-Some.len
    c.mark_changed.ensures.in_order c.mark_changed.ensures.marks c.mark_changed.ensures.values c.mark_changed.ensures.unchanged key c.in_ok-set_kept.ensures.ok count).1

pub returns-clause-ok : goal.returns-clause-ok
returns-clause-ok g c =
    let m : Marks g.row.K.Denot g.row.V.Denot = record { live = c.self.inside.live.entries; kept = c.self.inside.kept.entries; mark = c.self.inside.mark; frozen_len = c.self.inside.frozen_len } in
    let all : List (g.row.K.Denot × g.row.V.Denot) = merged g.K.Ord.cmp m.kept (unchanged_in m.mark m.live) in
    let there : c.frozen_entry-frozen.result ≡ entry_at g.K.Ord.cmp all c.args.k =
    c.frozen_entry-frozen.ensures ∙ ap (λ (v : View g.row.K.Denot g.row.V.Denot). entry_at g.K.Ord.cmp v.frozen c.args.k) (sym c.self.view_is) in
    let key : c.key_or-key.result ≡ key_in g.K.Ord.cmp all c.args.k =
    c.key_or-key.ensures ∙ ap (λ (r : Option (g.row.K.Denot × g.row.V.Denot)). unwrap_or (option_map (λ (e : g.row.K.Denot × g.row.V.Denot). e.0) r) c.args.k) there ∙ sym (key_of-entry g.K.Ord.cmp all c.args.k) in
    let had : is_some c.frozen_entry-frozen.result ≡ has_key g.K.Ord.cmp all c.args.k =
    ap (λ (r : Option (g.row.K.Denot × g.row.V.Denot)). is_some r) there ∙ sym (some_entry g.K.Ord.cmp all c.args.k) in
    let count : c.in-Some.len + cond (has_key g.K.Ord.cmp all c.args.k) 1 0 ≡ m.frozen_len + cond (is_some c.args.first) 1 0 =
    omega (arith, c.in-Some.ensures.1, c.count.ensures, ap {B = ℕ} (λ b. cond b 1 0) had, c.count-2.ensures, some_length g.K.Ord.cmp c.args.k all, c.self.invariant.counted) in
    (noted-changed g.met.K.Ord.total c.args.k c.args.first m c.self.invariant c.mark_changed.new.live.entries c.set_kept.new.kept.entries c.key_or-key.result c.in-Some.len
    c.mark_changed.ensures.in_order c.mark_changed.ensures.marks c.mark_changed.ensures.values c.mark_changed.ensures.unchanged key c.in_ok-set_kept.ensures.ok count).0
    ∙ ap (λ (v : View g.row.K.Denot g.row.V.Denot). record v { frozen = with_option g.K.Ord.cmp c.args.k c.args.first v.frozen }) c.self.view_is

use Rattle.std.proofs.Common.{ℕ, List, Option, is_some, ap, sym, subst, ◌∙◌}
use Rattle.maps.proofs.Lookups.{value_at-with_value_here}
use Rattle.maps.specs.Maps.{has_key, with_value}
use Rattle.view_map.specs.Marks.{Marks, IsMarked, view_of}
use Rattle.view_map.specs.View.{View}
use Rattle.view_map.proofs.Changed.{restored}
use Rattle.view_map.proofs.Kept.{put-changed}
use Rattle.view_map.proofs.ViewMap.put.Goals as goal

pub put_back-requires : goal.put_back-requires
put_back-requires g c = record {
  present = ap (λ (es : List (g.row.K.Denot × (g.row.V.Denot × ℕ))). has_key g.K.Ord.cmp es c.args.k) c.in_ok-key.ensures.live
      ∙ ap (λ (x : Option (g.row.V.Denot × ℕ)). is_some x) (value_at-with_value_here g.met.K.Ord.total c.args.k (c.args.v, c.self.inside.mark) c.self.inside.live.entries);
}

pub returns-in-Err-clause-err : goal.returns-in-Err-clause-err
returns-in-Err-clause-err g c =
    let m : Marks g.row.K.Denot g.row.V.Denot = record { live = c.self.inside.live.entries; kept = c.self.inside.kept.entries; mark = c.self.inside.mark; frozen_len = c.self.inside.frozen_len } in
    let live = restored g.met.K.Ord.total c.args.k (c.args.v, c.self.inside.mark) c.in_ok-key.before c.self.inside.live.entries c.replace.new.live.entries c.put_back.new.live.entries c.self.invariant.live
    c.in_ok-key.ensures.live c.in_ok-key.ensures.before c.put_back.ensures in
    (λ i. view_of g.K.Ord.cmp (record m { live = live i; kept = c.in-Err.ensures.err i })) ∙ c.self.view_is

pub invariant_of-self-in-Err : goal.invariant_of-self-in-Err
invariant_of-self-in-Err g c =
    let m : Marks g.row.K.Denot g.row.V.Denot = record { live = c.self.inside.live.entries; kept = c.self.inside.kept.entries; mark = c.self.inside.mark; frozen_len = c.self.inside.frozen_len } in
    let live = restored g.met.K.Ord.total c.args.k (c.args.v, c.self.inside.mark) c.in_ok-key.before c.self.inside.live.entries c.replace.new.live.entries c.put_back.new.live.entries c.self.invariant.live
    c.in_ok-key.ensures.live c.in_ok-key.ensures.before c.put_back.ensures in
    subst (λ (m : Marks g.row.K.Denot g.row.V.Denot). IsMarked g.K.Ord.cmp m) (λ i. record m { live = sym live i; kept = sym c.in-Err.ensures.err i }) c.self.invariant

pub invariant_of-self-in_default : goal.invariant_of-self-in_default
invariant_of-self-in_default g c =
    let m : Marks g.row.K.Denot g.row.V.Denot = record { live = c.self.inside.live.entries; kept = c.self.inside.kept.entries; mark = c.self.inside.mark; frozen_len = c.self.inside.frozen_len } in
    (put-changed g.met.K.Ord.total c.args.k c.in_ok-key.key c.args.v c.in_ok-key.before m c.self.invariant c.replace.new.live.entries c.keep.new.kept.entries
    c.in_ok-key.ensures.live c.in_ok-key.ensures.key c.in_ok-key.ensures.before c.in_default.ensures.ok).1

pub returns-clause-ok : goal.returns-clause-ok
returns-clause-ok g c =
    let m : Marks g.row.K.Denot g.row.V.Denot = record { live = c.self.inside.live.entries; kept = c.self.inside.kept.entries; mark = c.self.inside.mark; frozen_len = c.self.inside.frozen_len } in
    (put-changed g.met.K.Ord.total c.args.k c.in_ok-key.key c.args.v c.in_ok-key.before m c.self.invariant c.replace.new.live.entries c.keep.new.kept.entries
    c.in_ok-key.ensures.live c.in_ok-key.ensures.key c.in_ok-key.ensures.before c.in_default.ensures.ok).0
    ∙ ap (λ (v : View g.row.K.Denot g.row.V.Denot). record v { live = with_value g.K.Ord.cmp c.args.k c.args.v v.live }) c.self.view_is

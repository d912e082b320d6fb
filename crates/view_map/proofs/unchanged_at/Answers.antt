use Rattle.std.proofs.Common.{Option, unwrap_or, ap, sym, ◌∙◌}
use Rattle.view_map.proofs.Marks.{changed_there, stands_there, nothing_there}
use Rattle.view_map.proofs.unchanged_at.Goals as goal

pub returns-in_err-key : goal.returns-in_err-key
returns-in_err-key g c = c.from_residual.ensures ∙ sym (nothing_there g.met.K.Ord.total c.args.mark c.args.k.now c.args.live.now.entries c.requires (sym c.in_err-key.ensures.value))

pub returns-then-since-mark : goal.returns-then-since-mark
returns-then-since-mark g c = changed_there g.met.K.Ord.total c.args.mark c.args.k.now _ _ c.args.live.now.entries c.requires c.in_ok-key.ensures.value c.if-since-mark.true

pub returns-else-since-mark : goal.returns-else-since-mark
returns-else-since-mark g c =
    stands_there g.met.K.Ord.total c.args.mark c.args.k.now _ _ _ c.args.live.now.entries c.requires (ap (λ (x : Option g.row.K.Denot). unwrap_or x c.args.k.now) c.in_ok-key.ensures.key) c.in_ok-key.ensures.value c.if-since-mark.false

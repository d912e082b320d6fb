use Rattle.std.proofs.Common.{Option, Some, unwrap_or, option_map, ap, sym, ◌∙◌}
use Rattle.view_map.specs.View.{key_in}
use Rattle.view_map.proofs.Entries.{entry_is}
use Rattle.view_map.proofs.kept_at.Goals as goal

pub returns-in_err-key : goal.returns-in_err-key
returns-in_err-key g c =
    c.from_residual.ensures ∙ ap (λ (x : Option g.row.V.Denot). option_map (λ v. (key_in g.K.Ord.cmp c.args.kept.now.entries c.args.k.now, v)) x) c.in_err-key.ensures.value
    ∙ sym (entry_is g.K.Ord.cmp c.args.kept.now.entries c.args.k.now)

pub returns : goal.returns
returns g c =
    ap (λ (j : g.row.K.Denot). Some (j, c.in_ok-key.v.now)) (ap (λ (x : Option g.row.K.Denot). unwrap_or x c.args.k.now) c.in_ok-key.ensures.key)
    ∙ ap (λ (x : Option g.row.V.Denot). option_map (λ v. (key_in g.K.Ord.cmp c.args.kept.now.entries c.args.k.now, v)) x) c.in_ok-key.ensures.value
    ∙ sym (entry_is g.K.Ord.cmp c.args.kept.now.entries c.args.k.now)

use Rattle.std.proofs.Common.{Option, option_map, ap, sym, ◌∙◌}
use Rattle.view_map.proofs.Entries.{value_of-entry}
use Rattle.view_map.proofs.ViewMap.frozen_get.Goals as goal

pub returns-in_err-v : goal.returns-in_err-v
returns-in_err-v g c =
    c.from_residual.ensures ∙ ap (λ (x : Option (g.row.K.Denot × g.row.V.Denot)). option_map (λ (e : g.row.K.Denot × g.row.V.Denot). e.1) x) c.in_err-v.ensures
    ∙ sym (value_of-entry g.K.Ord.cmp c.args.self.now.frozen c.args.k.now)

pub returns : goal.returns
returns g c =
    ap (λ (x : Option (g.row.K.Denot × g.row.V.Denot)). option_map (λ (e : g.row.K.Denot × g.row.V.Denot). e.1) x) c.in_ok-v.ensures
    ∙ sym (value_of-entry g.K.Ord.cmp c.args.self.now.frozen c.args.k.now)

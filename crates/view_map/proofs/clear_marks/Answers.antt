use Rattle.std.proofs.Common.{ℕ, List, ap, subst, sym, ◌∙◌, rules}
use Rattle.std.proofs.lemmas.Map.Made.{map_same_pairs}
use Rattle.view_map.specs.Marks.{AllBefore, values_in}
use Rattle.view_map.proofs.Marks.{no_marks, values-no_marks}
use Rattle.view_map.proofs.clear_marks.Goals as goal

pub returns-clause-marks : goal.returns-clause-marks
returns-clause-marks g c =
    let cleared = map_same_pairs _ (λ (m : g.row.V.Denot × ℕ). (m.0, 0)) _ (λ k v b w f t. search rules) c.args.live.now.entries _ c.retain.ensures.filtered in
    subst (λ (es : List (g.row.K.Denot × (g.row.V.Denot × ℕ))). AllBefore 1 es) (sym cleared) (no_marks c.args.live.now.entries)

pub returns-clause-values : goal.returns-clause-values
returns-clause-values g c =
    let cleared = map_same_pairs _ (λ (m : g.row.V.Denot × ℕ). (m.0, 0)) _ (λ k v b w f t. search rules) c.args.live.now.entries _ c.retain.ensures.filtered in
    ap (λ (es : List (g.row.K.Denot × (g.row.V.Denot × ℕ))). values_in es) cleared ∙ values-no_marks c.args.live.now.entries

-- One row after another.
use Rattle.std.proofs.Common.{◌≡◌, ◌+◌, ◌++◌, [], ◌∷◌, ap, drop, rules, subst, sym, ◌∙◌}
use Rattle.std.proofs.lemmas.List.{at_drop_all, at_drop_more}
use Rattle.row_items.proofs.SoFar.{IsSoFar, all_found, none_found, so_far_more, so_far_none}
use Rattle.row_items.proofs.items.items_of.Goals as goal

pub loop-row-init : goal.loop-row-init
loop-row-init g c =
    let k = g.K.RowKind in
    let none : c.new-items.result.items ≡ [] = search rules in
    subst (λ t. IsSoFar k.form k.shows c.args.rows.now t c.args.rows.now) (sym none) (so_far_none k.form k.shows c.args.rows.now)

pub loop-row-preserved : goal.loop-row-preserved
loop-row-preserved g c =
    let k = g.K.RowKind in
    let rows = c.args.rows.now in
    let i = c.loop-row.row-index in
    let r = c.row-item.result in
    let kept : c.keep.new.items.items ≡ c.loop-row.items.items ++ c.in-Some.item ∷ [] = search rules in
    let left : drop i rows ≡ r ∷ drop (i + 1) rows = at_drop_more (λ t. t) rows i r c.loop-row-test.true ∙ ap (λ x. x ∷ drop (i + 1) rows) (sym c.row-item.is) in
    subst (λ t. IsSoFar k.form k.shows rows t (drop (i + 1) rows)) (sym kept)
    (so_far_more k.form k.shows rows c.loop-row.items.items c.in-Some.item r (drop (i + 1) rows)
    (subst (λ t. IsSoFar k.form k.shows rows c.loop-row.items.items t) left c.loop-row.invariant) (rw c.in-Some.is at c.in_ok-item.ensures))

pub returns-in-None : goal.returns-in-None
returns-in-None g c =
    let k = g.K.RowKind in
    let rows = c.args.rows.now in
    let i = c.loop-row.row-index in
    let r = c.row-item.result in
    let left : drop i rows ≡ r ∷ drop (i + 1) rows = at_drop_more (λ t. t) rows i r c.loop-row-test.true ∙ ap (λ x. x ∷ drop (i + 1) rows) (sym c.row-item.is) in
    none_found k.form k.shows rows c.loop-row.items.items r (drop (i + 1) rows)
    (subst (λ t. IsSoFar k.form k.shows rows c.loop-row.items.items t) left c.loop-row.invariant) (rw c.in-None.is at c.in_ok-item.ensures)

pub returns : goal.returns
returns g c =
    let k = g.K.RowKind in
    let rows = c.args.rows.now in
    all_found k.form k.shows rows c.loop-row.items.items
    (subst (λ t. IsSoFar k.form k.shows rows c.loop-row.items.items t) (at_drop_all (λ t. t) rows c.loop-row.row-index c.loop-row-test.false) c.loop-row.invariant)

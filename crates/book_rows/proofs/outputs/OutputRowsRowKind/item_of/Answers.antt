-- The output is the one that the row shows.
use Rattle.std.proofs.Common.{Some, None, subst}
use Rattle.book_rows.proofs.OutputTells.{TheAssets, no_output, output_only}
use Rattle.book_rows.proofs.outputs.OutputRowsRowKind.item_of.Goals as goal

pub returns : goal.returns
returns c =
    output_only c.args.shown.now c.in-Some.assets
    (subst (λ es. TheAssets es (Some c.in-Some.assets)) c.as_slice.ensures (rw c.in-Some.is at c.in_ok-assets.ensures))

pub returns-in_default : goal.returns-in_default
returns-in_default c =
    no_output c.args.shown.now (subst (λ es. TheAssets es None) c.as_slice.ensures (rw c.in_default.is at c.in_ok-assets.ensures))

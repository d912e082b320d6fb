use Rattle.std.proofs.Common.{sym, ◌∙◌}
use Rattle.book_rows.proofs.OutputTells.{assets_only, no_assets, quantities_of}
use Rattle.book_rows.proofs.outputs.assets_of.Goals as goal

pub from_entries-requires : goal.from_entries-requires
from_entries-requires c = record { quantities = quantities_of c.args.entries.now (sym c.are_assets-held.ensures ∙ c.if-not-held.false) }

pub returns-then-not-held : goal.returns-then-not-held
returns-then-not-held c = no_assets c.args.entries.now (sym c.are_assets-held.ensures ∙ c.if-not-held.true)

pub returns : goal.returns
returns c = assets_only c.args.entries.now c.in_ok-assets.assets (sym c.are_assets-held.ensures ∙ c.if-not-held.false) c.in_ok-assets.ensures

use Rattle.std.proofs.Common.{map, sym, ◌∙◌}
use Rattle.shortfall_model.specs.ShortLines.{add_words}
use Rattle.report.proofs.Handed.{put_as, put_both, put_front}
use Rattle.short_lines.proofs.Chosen.{chosen_lines, empty_lines}
use Rattle.short_lines.proofs.putting.put_chosen.Goals as goal

pub returns-then-is_empty : goal.returns-then-is_empty
returns-then-is_empty g c =
    put_as (empty_lines c.args.id.now c.args.chosen.now c.args.count c.args.need c.args.short (sym c.is_empty.ensures ∙ c.if-is_empty.true)) c.put_least.ensures

pub returns-in_err-put_least_of : goal.returns-in_err-put_least_of
returns-in_err-put_least_of g c =
    put_front (map add_words c.args.chosen.now) (chosen_lines c.args.id.now c.args.chosen.now c.args.count c.args.need c.args.short (sym c.is_empty.ensures ∙ c.if-is_empty.false))
    c.in_err-put_least_of.ensures c.from_residual.ensures.1

pub returns-in_ok-put_least_of : goal.returns-in_ok-put_least_of
returns-in_ok-put_least_of g c =
    put_both (chosen_lines c.args.id.now c.args.chosen.now c.args.count c.args.need c.args.short (sym c.is_empty.ensures ∙ c.if-is_empty.false)) c.in_ok-put_least_of.ensures c.put_added.ensures

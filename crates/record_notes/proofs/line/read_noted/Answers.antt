use Rattle.std.proofs.Common.{ap, option_map, sym, ◌∙◌}
use Rattle.json_tree.specs.View.{view}
use Rattle.record_notes.proofs.Lined.{value_noted, value_within}
use Rattle.record_notes.proofs.line.read_noted.Goals as goal

pub returns-in_ok-noted-in-Some-clause-says : goal.returns-in_ok-noted-in-Some-clause-says
returns-in_ok-noted-in-Some-clause-says c =
    value_noted c.args.line.now (view c.in-Some.value) c.in_ok-noted-in-Some.field-0.reading _ (sym c.if-is_blank.ensures) (sym (ap (option_map view) c.in-Some.is) ∙ c.in_ok-value.ensures) c.in_ok-noted-in-Some.ensures.reads c.in_ok-noted-in-Some.ensures.says

pub returns-in_ok-noted-in-Some-clause-within : goal.returns-in_ok-noted-in-Some-clause-within
returns-in_ok-noted-in-Some-clause-within c =
    value_within c.args.line.now (view c.in-Some.value) c.in_ok-noted-in-Some.field-0.reading (sym (ap (option_map view) c.in-Some.is) ∙ c.in_ok-value.ensures) c.in_ok-noted-in-Some.ensures.reads c.lines_read_within_limits.ensures

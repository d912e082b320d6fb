-- By where the reading of the text ended.
use Rattle.std.proofs.Common.{◌≡◌, ◌≢◌, [], ap, refl, rules, sym, subst, ◌∙◌}
use Rattle.byte_lines.specs.declared.lines.Line.TheVariants as lines
use Rattle.ended_source.specs.Faults.{fault_at}
use Rattle.line_giver.proofs.Passing.{passes_both}
use Rattle.check_loop.proofs.Moments.{by_answer, by_fault, by_fault_as, by_none, same_reader, same_source}
use Rattle.check_loop.proofs.next.answer_ended.Goals as goal

pub returns-in_err-line-clause-next : goal.returns-in_err-line-clause-next
returns-in_err-line-clause-next g c =
    by_fault_as (by_fault c.requires.begins c.requires.calm (record { lines = []; passed = c.look.ensures.passes }) c.in_err-line.field-0.0 (sym (ap fault_at c.in_err-line.ensures.told))) c.from_residual.ensures.1

pub returns-in_err-line-clause-same_reader : goal.returns-in_err-line-clause-same_reader
returns-in_err-line-clause-same_reader g c = same_reader c.requires.begins c.requires.calm (record { lines = []; passed = c.look.ensures.passes })

pub returns-in_err-line-clause-same_source : goal.returns-in_err-line-clause-same_source
returns-in_err-line-clause-same_source g c = same_source c.requires.begins c.requires.calm (record { lines = []; passed = c.look.ensures.passes })

pub returns-then-eq-clause-next : goal.returns-then-eq-clause-next
returns-then-eq-clause-next g c = by_none c.in_ok-line.line c.requires.begins c.requires.calm c.look.ensures.passes c.in_ok-line.ensures.told (search rules)

pub returns-then-eq-clause-same_reader : goal.returns-then-eq-clause-same_reader
returns-then-eq-clause-same_reader g c = same_reader c.requires.begins c.requires.calm (record { lines = []; passed = c.look.ensures.passes })

pub returns-then-eq-clause-same_source : goal.returns-then-eq-clause-same_source
returns-then-eq-clause-same_source g c = same_source c.requires.begins c.requires.calm (record { lines = []; passed = c.look.ensures.passes })

pub returns-in_default-clause-next : goal.returns-in_default-clause-next
returns-in_default-clause-next g c =
    by_fault c.requires.begins c.requires.calm (passes_both (record { lines = []; passed = c.look.ensures.passes }) c.is_right.ensures.passes) c.fault_of.result c.fault_of.ensures

pub returns-in_default-clause-same_reader : goal.returns-in_default-clause-same_reader
returns-in_default-clause-same_reader g c = same_reader c.requires.begins c.requires.calm (passes_both (record { lines = []; passed = c.look.ensures.passes }) c.is_right.ensures.passes)

pub returns-in_default-clause-same_source : goal.returns-in_default-clause-same_source
returns-in_default-clause-same_source g c = same_source c.requires.begins c.requires.calm (passes_both (record { lines = []; passed = c.look.ensures.passes }) c.is_right.ensures.passes)

pub returns-in_err-pass_all-clause-next : goal.returns-in_err-pass_all-clause-next
returns-in_err-pass_all-clause-next g c =
    by_fault_as
    (by_fault c.requires.begins c.requires.calm (passes_both (passes_both (record { lines = []; passed = c.look.ensures.passes }) c.is_right.ensures.passes) c.pass_all.ensures.passes) c.in_err-pass_all.field-0.0 c.in_err-pass_all.ensures.at)
    c.from_residual-in_err-pass_all.ensures.1

pub returns-in_err-pass_all-clause-same_reader : goal.returns-in_err-pass_all-clause-same_reader
returns-in_err-pass_all-clause-same_reader g c =
    same_reader c.requires.begins c.requires.calm (passes_both (passes_both (record { lines = []; passed = c.look.ensures.passes }) c.is_right.ensures.passes) c.pass_all.ensures.passes)

pub returns-in_err-pass_all-clause-same_source : goal.returns-in_err-pass_all-clause-same_source
returns-in_err-pass_all-clause-same_source g c =
    same_source c.requires.begins c.requires.calm (passes_both (passes_both (record { lines = []; passed = c.look.ensures.passes }) c.is_right.ensures.passes) c.pass_all.ensures.passes)

pub returns-clause-next : goal.returns-clause-next
returns-clause-next g c =
    by_answer c.in_ok-line.line c.in-Ok.answer c.requires.begins c.requires.calm c.look.ensures.passes c.in_ok-line.ensures.told (search rules) c.in-Ok.ensures.right
    (passes_both c.is_right.ensures.passes c.pass_all.ensures.passes) c.in_ok-pass_all.ensures.at

pub returns-clause-same_reader : goal.returns-clause-same_reader
returns-clause-same_reader g c =
    same_reader c.requires.begins c.requires.calm (passes_both (passes_both (record { lines = []; passed = c.look.ensures.passes }) c.is_right.ensures.passes) c.pass_all.ensures.passes)

pub returns-clause-same_source : goal.returns-clause-same_source
returns-clause-same_source g c =
    same_source c.requires.begins c.requires.calm (passes_both (passes_both (record { lines = []; passed = c.look.ensures.passes }) c.is_right.ensures.passes) c.pass_all.ensures.passes)

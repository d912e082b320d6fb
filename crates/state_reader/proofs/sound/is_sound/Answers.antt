-- A line of an action that is too long, or the tests, decide.
use Rattle.std.proofs.Common.{List, ap, map, sym, ◌∙◌}
use Rattle.gov_actions.specs.declared.action.Proposal.{Proposal}
use Rattle.text_forms.specs.Lines.{are_short_lines}
use Rattle.text_forms.specs.Snapshots.{action_words}
use Rattle.state_reader.proofs.Sounds.{tests_decide, too_long}
use Rattle.state_reader.proofs.sound.is_sound.Goals as goal

pub returns-then-not-short : goal.returns-then-not-short
returns-then-not-short c =
    let same = ap (λ (ps : List Proposal). are_short_lines (map action_words ps)) c.as_slice.ensures in
    too_long c.args.state.now c.args.line (sym same ∙ sym c.in_ok-short.ensures ∙ c.if-not-short.true)

pub returns : goal.returns
returns c = tests_decide c.args.state.now c.args.line c.if-line-gt-LAST_LINE.false c.is_resumable.result (c.is_resumable.ensures c.short_by_form.ensures)

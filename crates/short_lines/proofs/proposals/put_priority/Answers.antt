use Rattle.std.proofs.Common.{◌+◌, List, ap, map, sym, ◌∙◌}
use Rattle.gov_actions.specs.declared.action.Proposal.{Proposal}
use Rattle.report.proofs.Puts.{put_none}
use Rattle.snapshots.specs.declared.frozen.Frozen.{Frozen}
use Rattle.tally.specs.Cells.{cell_of}
use Rattle.short_lines.specs.Ranked.{lines_of, of_priority}
use Rattle.report.proofs.Handed.{put_as, put_both, put_front}
use Rattle.short_lines.proofs.InPriority.{count_in, from_next, lines_from, none_left}
use Rattle.short_lines.proofs.proposals.put_priority.Goals as goal

pub returns-in_err-put_proposal : goal.returns-in_err-put_proposal
returns-in_err-put_proposal g c = λ s of ranked counts.
    let ps = c.as_slice-proposals.result.now in
    let i = c.loop-i.i in
    let a = c.index-proposals-i.result in
    let same = c.as_slice-proposals.ensures ∙ ap (λ (f : Frozen). f.proposals) of in
    put_as (ap (λ (xs : List Proposal). lines_of s (of_priority c.args.priority xs)) same)
    (c.loop-i.invariant s of ranked counts (g.T.LineTaker.taken c.put_proposal.new.to) (g.T.LineTaker.faults c.put_proposal.new.to) c.from_residual.result
    (put_front (lines_from s c.args.priority ps (i + 1)) (from_next s c.args.priority ps i a c.loop-i-test.true c.index-proposals-i.is)
    (c.in_err-put_proposal.ensures s of ranked (count_in s ps c.args.cells.now i a _ c.loop-i-test.true c.index-proposals-i.is (counts ∙ ap (map (cell_of s)) (sym same)))) c.from_residual.ensures.1))

pub loop-i-preserved : goal.loop-i-preserved
loop-i-preserved g c = λ s of ranked counts t f r later.
    let ps = c.as_slice-proposals.result.now in
    let i = c.loop-i.i in
    let a = c.index-proposals-i.result in
    let same = c.as_slice-proposals.ensures ∙ ap (λ (f : Frozen). f.proposals) of in
    c.loop-i.invariant s of ranked counts t f r
    (put_both (from_next s c.args.priority ps i a c.loop-i-test.true c.index-proposals-i.is)
    (c.in_ok-put_proposal.ensures s of ranked (count_in s ps c.args.cells.now i a _ c.loop-i-test.true c.index-proposals-i.is (counts ∙ ap (map (cell_of s)) (sym same)))) later)

pub returns : goal.returns
returns g c = λ s of ranked counts.
    let ps = c.as_slice-proposals.result.now in
    let same = c.as_slice-proposals.ensures ∙ ap (λ (f : Frozen). f.proposals) of in
    put_as (ap (λ (xs : List Proposal). lines_of s (of_priority c.args.priority xs)) same)
    (c.loop-i.invariant s of ranked counts (g.T.LineTaker.taken c.loop-i.to) (g.T.LineTaker.faults c.loop-i.to) _
    (put_as (sym (none_left s c.args.priority ps c.loop-i.i c.loop-i-test.false))
    (put_none g.T.LineTaker.with_line g.T.LineTaker.IsPart c.args.line (g.T.LineTaker.taken c.loop-i.to) (g.T.LineTaker.faults c.loop-i.to))))

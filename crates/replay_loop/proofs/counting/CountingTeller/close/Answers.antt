use Rattle.std.proofs.Common.{ap, ◌∙◌, take}
use Rattle.std.specs.Io.KnownBytes.{append_known}
use Rattle.std.proofs.lemmas.Result.{on_ok_weaker, on_err_weaker}
use Rattle.load_model.specs.declared.summary.LoadSummary.{LoadSummary}
use Rattle.load_summary.specs.Counting.{summary_with}
use Rattle.replay_loop.specs.Loads.{summary_text}
use Rattle.tx_records.specs.declared.report.Pots.{Pots}
use Rattle.line_runs.proofs.Gathers.{all_after, part_after, part_before}
use Rattle.gathered_lines.proofs.Gathering.{on_err_any}
use Rattle.replay_loop.proofs.counting.CountingTeller.close.Goals as goal

pub returns-in_err-hand_over-clause-err : goal.returns-in_err-hand_over-clause-err
returns-in_err-hand_over-clause-err g c =
    let short = c.in_err-hand_over.ensures.err in
    on_err_any c.from_residual.result (part_before _ _ _ _ _ short.0 short.2 c.hand_over.ensures.none)

pub returns-clause-ok : goal.returns-clause-ok
returns-clause-ok g c =
    let command = c.args.self.now.command in
    let is = c.summary-summary.ensures ∙ ap (λ (p : Pots). summary_with command.seed command.accounts command.epochs c.args.self.now.counts p) c.pots.ensures in
    on_ok_weaker c.write_load.result (λ took. all_after _ _ _ _ _ _ c.in_ok-hand_over.ensures.ok (took ∙ ap (λ (x : LoadSummary). append_known (g.K.Sink.taken c.hand_over.new.sink) (summary_text x)) is) c.hand_over.ensures.none) c.write_load.ensures.ok

pub returns-clause-err : goal.returns-clause-err
returns-clause-err g c =
    let command = c.args.self.now.command in
    let is = c.summary-summary.ensures ∙ ap (λ (p : Pots). summary_with command.seed command.accounts command.epochs c.args.self.now.counts p) c.pots.ensures in
    on_err_weaker c.write_load.result (λ took. part_after _ _ _ _ _ _ took.0 c.in_ok-hand_over.ensures.ok (took.1 ∙ ap (λ (x : LoadSummary). append_known (g.K.Sink.taken c.hand_over.new.sink) (take took.0 (summary_text x))) is) c.hand_over.ensures.none) c.write_load.ensures.err

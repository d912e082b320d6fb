use Rattle.std.proofs.Common.{subst}
use Rattle.std.specs.Prelude.{OnErr, OnOk}
use Rattle.std.proofs.lemmas.Result.{on_ok_weaker, on_err_weaker}
use Rattle.gathered_lines.proofs.Gathering.{names_stay, told_all, told_part}
use Rattle.line_runs.specs.Batches.{TellsAll, TellsPart}
use Rattle.run_model.specs.World.{World}
use Rattle.text_model.specs.Runs.{text_of_lines}
use Rattle.voting_lines.specs.Told.{voting_lines}
use Rattle.voting_lines.proofs.votes.put_through.Goals as goal

pub returns-clause-ok : goal.returns-clause-ok
returns-clause-ok g c =
    subst (λ (w : World). OnOk c.put_ledger.result (TellsAll (g.K.Sink.taken c.args.to.now.sink.now) (g.K.Sink.taken c.put_ledger.new.to.sink.now)
    c.args.to.now.batch.now.items c.put_ledger.new.to.batch.now.items (text_of_lines c.args.line (voting_lines w)))) c.ledger.ensures
    (on_ok_weaker c.put_ledger.result (told_all c.args.line _ _ (voting_lines c.ledger.result.now)) c.put_ledger.ensures.ok)

pub returns-clause-err : goal.returns-clause-err
returns-clause-err g c =
    subst (λ (w : World). OnErr c.put_ledger.result (TellsPart (g.K.Sink.taken c.args.to.now.sink.now) (g.K.Sink.taken c.put_ledger.new.to.sink.now)
    c.args.to.now.batch.now.items c.put_ledger.new.to.batch.now.items (text_of_lines c.args.line (voting_lines w)))) c.ledger.ensures
    (on_err_weaker c.put_ledger.result (told_part c.args.line _ _ (voting_lines c.ledger.result.now)) c.put_ledger.ensures.err)

pub returns-clause-same_batch : goal.returns-clause-same_batch
returns-clause-same_batch g c =
    let same = names_stay c.args.line _ _ (voting_lines c.ledger.result.now) c.put_ledger.result c.put_ledger.ensures.ok c.put_ledger.ensures.err in same.0

pub returns-clause-same_sink : goal.returns-clause-same_sink
returns-clause-same_sink g c =
    let same = names_stay c.args.line _ _ (voting_lines c.ledger.result.now) c.put_ledger.result c.put_ledger.ensures.ok c.put_ledger.ensures.err in same.1

use Rattle.std.proofs.Common.{◌≡◌, Err, Ok, rules, subst}
use Rattle.std.specs.Prelude.{option_map}
use Rattle.explain_print.specs.of_explain_model.of_record_notes.Seen.{noted_seen}
use Rattle.replay_loop.specs.Answers.{Answers}
use Rattle.replay_loop.specs.declared.fault.AnswerFault.{AnswerFault}
use Rattle.replay_loop.specs.declared.fault.AnswerFault.TheVariants as answer_faults
use Rattle.explain_loop.proofs.Turned.{turned_failed, turned_none, turned_over}
use Rattle.explain_loop.proofs.command.explain_over.Goals as goal

pub returns-in-Err-BadGenesis-clause-turns : goal.returns-in-Err-BadGenesis-clause-turns
returns-in-Err-BadGenesis-clause-turns g c =
    let fault = c.in-Err-BadGenesis.field-0 in
    let is : fault ≡ answer_faults.BadGenesis c.in-Err-BadGenesis.cause = search rules in
    turned_failed g.R.RunState.world (option_map g.R.RunState.world c.args.before) c.args.number (noted_seen c.args.noted) c.in_ok-reading.reading c.in_ok-reading.ensures.reading
    (record { taken = g.K.Sink.taken c.args.sink.now; batch = c.args.batch.now.items }) (record { taken = g.K.Sink.taken c.write_noted.new.sink; batch = c.write_noted.new.batch.items })
    c.in-Err-BadGenesis.cause
    (subst (λ (f : AnswerFault). Answers (option_map g.R.RunState.world c.args.before) c.in_ok-reading.reading (Err f)) is
    (c.requires.answers.answered c.args.workers c.args.before c.in_ok-reading.reading (Err fault) c.requires.few c.in-Err-BadGenesis.ensures))
    c.in_ok-reading.ensures.ok

pub returns-in-Err-NoMemory-clause-turns : goal.returns-in-Err-NoMemory-clause-turns
returns-in-Err-NoMemory-clause-turns g c =
    turned_none g.R.RunState.world (option_map g.R.RunState.world c.args.before) c.args.number (noted_seen c.args.noted) c.in_ok-reading.reading c.in_ok-reading.ensures.reading
    (record { taken = g.K.Sink.taken c.args.sink.now; batch = c.args.batch.now.items }) (record { taken = g.K.Sink.taken c.write_noted.new.sink; batch = c.write_noted.new.batch.items })
    c.in_ok-reading.ensures.ok

pub returns-in-Ok-clause-turns : goal.returns-in-Ok-clause-turns
returns-in-Ok-clause-turns g c =
    turned_over g.R.RunState.world (option_map g.R.RunState.world c.args.before) c.args.number (noted_seen c.args.noted) c.in_ok-reading.reading c.in_ok-reading.ensures.reading
    (record { taken = g.K.Sink.taken c.args.sink.now; batch = c.args.batch.now.items }) (record { taken = g.K.Sink.taken c.write_noted.new.sink; batch = c.write_noted.new.batch.items })
    c.in-Ok.after c.in-Ok._outcome
    (c.requires.answers.answered c.args.workers c.args.before c.in_ok-reading.reading (Ok (c.in-Ok.after, c.in-Ok._outcome)) c.requires.few c.in-Ok.ensures)
    c.in_ok-reading.ensures.ok

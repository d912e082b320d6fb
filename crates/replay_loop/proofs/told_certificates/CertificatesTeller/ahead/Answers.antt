use Rattle.std.proofs.Common.{ℕ, List, Option, ap, subst, ◌∙◌}
use Rattle.std.specs.Prelude.{OnErr, OnOk}
use Rattle.line_runs.specs.Batches.{TellsAll, TellsPart}
use Rattle.replay_loop.proofs.Certificates.{ahead_is}
use Rattle.replay_loop.specs.Certificates.{certificate_before}
use Rattle.replay_loop.proofs.told_certificates.CertificatesTeller.ahead.Goals as goal

pub returns-clause-ok : goal.returns-clause-ok
returns-clause-ok g c =
    subst (λ (t : List ℕ). OnOk c.tell_end.result (TellsAll (g.K.Sink.taken c.args.sink.now) (g.K.Sink.taken c.tell_end.new.sink) c.args.batch.now.items c.tell_end.new.batch.items t))
    (ap (λ (b : Option (ℕ × ℕ)). certificate_before (g.R.RunState.world c.args.state.now) b) c.block_of-block.ensures ∙ ahead_is (g.R.RunState.world c.args.state.now) c.args.reading.now)
    c.tell_end.ensures.ok

pub returns-clause-err : goal.returns-clause-err
returns-clause-err g c =
    subst (λ (t : List ℕ). OnErr c.tell_end.result (TellsPart (g.K.Sink.taken c.args.sink.now) (g.K.Sink.taken c.tell_end.new.sink) c.args.batch.now.items c.tell_end.new.batch.items t))
    (ap (λ (b : Option (ℕ × ℕ)). certificate_before (g.R.RunState.world c.args.state.now) b) c.block_of-block.ensures ∙ ahead_is (g.R.RunState.world c.args.state.now) c.args.reading.now)
    c.tell_end.ensures.err

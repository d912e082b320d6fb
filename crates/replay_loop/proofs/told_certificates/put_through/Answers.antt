use Rattle.std.proofs.lemmas.Result.{on_ok_weaker, on_err_weaker}
use Rattle.certificate_model.specs.Certificate.{certificate_lines}
use Rattle.gathered_lines.proofs.Gathering.{bare_all, bare_front, bare_names}
use Rattle.replay_loop.proofs.Worded.{certificate_has}
use Rattle.replay_loop.proofs.told_certificates.put_through.Goals as goal

pub returns-clause-ok : goal.returns-clause-ok
returns-clause-ok g c =
    let f = (g.R.RunState.world c.args.state.now).frozen in
    on_ok_weaker c.put_certificate.result (bare_all _ _ (certificate_lines f) (certificate_has f)) c.put_certificate.ensures.ok

pub returns-clause-err : goal.returns-clause-err
returns-clause-err g c =
    let f = (g.R.RunState.world c.args.state.now).frozen in
    on_err_weaker c.put_certificate.result (bare_front _ _ (certificate_lines f) (certificate_has f)) c.put_certificate.ensures.err

pub returns-clause-same_batch : goal.returns-clause-same_batch
returns-clause-same_batch g c =
    let same = bare_names _ _ (certificate_lines (g.R.RunState.world c.args.state.now).frozen) c.put_certificate.result c.put_certificate.ensures.ok c.put_certificate.ensures.err in same.0

pub returns-clause-same_sink : goal.returns-clause-same_sink
returns-clause-same_sink g c =
    let same = bare_names _ _ (certificate_lines (g.R.RunState.world c.args.state.now).frozen) c.put_certificate.result c.put_certificate.ensures.ok c.put_certificate.ensures.err in same.1

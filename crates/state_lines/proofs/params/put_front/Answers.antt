use Rattle.std.proofs.Common.{take, drop}
use Rattle.text_model.specs.ParamLines.{param_lines}
use Rattle.report.proofs.Puts.{put_first_as, put_second_as}
use Rattle.state_lines.proofs.params.put_front.Goals as goal

pub returns-in_err-put_each : goal.returns-in_err-put_each
returns-in_err-put_each g c =
    put_first_as _ (take 8 (param_lines c.args.p.now)) (take 8 (drop 8 (param_lines c.args.p.now)))
    c.limits.ensures c.in_err-put_each.ensures c.from_residual.ensures.1

pub returns : goal.returns
returns g c =
    put_second_as _ (take 8 (param_lines c.args.p.now)) _ (take 8 (drop 8 (param_lines c.args.p.now)))
    c.limits.ensures c.amounts.ensures c.in_ok-put_each.ensures c.put_each-2.ensures

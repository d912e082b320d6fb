use Rattle.std.proofs.Common.{take, drop, refl}
use Rattle.text_model.specs.ParamLines.{param_lines}
use Rattle.report.proofs.Puts.{put_first_as, put_second_as}
use Rattle.state_lines.proofs.params.put_params.Goals as goal

pub returns-in_err-put_front : goal.returns-in_err-put_front
returns-in_err-put_front g c =
    put_first_as (take 16 (param_lines c.args.p.now)) (take 16 (param_lines c.args.p.now)) (drop 16 (param_lines c.args.p.now))
    refl c.in_err-put_front.ensures c.from_residual.ensures.1

pub returns : goal.returns
returns g c =
    put_second_as (take 16 (param_lines c.args.p.now)) (take 16 (param_lines c.args.p.now)) (drop 16 (param_lines c.args.p.now)) (drop 16 (param_lines c.args.p.now))
    refl refl c.in_ok-put_front.ensures c.put_rest.ensures

use Rattle.std.proofs.Common.{◌≡◌, true, sym, rules}
use Rattle.outlook_model.specs.Outlook.{boundary_lines, can_end}
use Rattle.report.proofs.Handed.{put_both, put_front}
use Rattle.outlook.proofs.Twice.{twice}
use Rattle.outlook.proofs.ahead.put_outlook.Goals as goal

pub returns-in_err-put_tallied : goal.returns-in_err-put_tallied
returns-in_err-put_tallied g c =
    let can : can_end c.args.s ≡ true = search rules in
    put_front (boundary_lines c.in_ok-after.after)
    (sym (twice c.args.s c.in_ok-after.after c.in_ok-after.report can c.in_ok-after.ensures.world c.in_ok-after.ensures.report))
    c.in_err-put_tallied.ensures c.from_residual-in_err-put_tallied.ensures.1

pub returns : goal.returns
returns g c =
    let can : can_end c.args.s ≡ true = search rules in
    put_both
    (sym (twice c.args.s c.in_ok-after.after c.in_ok-after.report can c.in_ok-after.ensures.world c.in_ok-after.ensures.report))
    c.in_ok-put_tallied.ensures c.put_boundary.ensures

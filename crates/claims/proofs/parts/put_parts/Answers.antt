use Rattle.std.proofs.Common.{◌++◌, flat_map}
use Rattle.claims.specs.Lines.{drep_lines, member_part_lines, pool_part_lines, predefined_lines}
use Rattle.report.proofs.Puts.{put_first, put_second, put_third}
use Rattle.claims.proofs.parts.put_parts.Goals as goal

pub returns-in_err-put_members : goal.returns-in_err-put_members
returns-in_err-put_members g c =
    let f = c.args.f.now in
    let a = c.args.a.now in
    put_first (member_part_lines f a) (flat_map (drep_lines f.epoch c.args.c.now a) f.dreps ++ predefined_lines c.args.c.now a) (pool_part_lines f a)
    c.in_err-put_members.ensures c.from_residual.ensures.1

pub returns-in_err-put_dreps : goal.returns-in_err-put_dreps
returns-in_err-put_dreps g c =
    let f = c.args.f.now in
    let a = c.args.a.now in
    put_second (member_part_lines f a) (flat_map (drep_lines f.epoch c.args.c.now a) f.dreps ++ predefined_lines c.args.c.now a) (pool_part_lines f a)
    c.in_ok-put_members.ensures c.in_err-put_dreps.ensures c.from_residual-in_err-put_dreps.ensures.1

pub returns : goal.returns
returns g c =
    let f = c.args.f.now in
    let a = c.args.a.now in
    put_third (member_part_lines f a) (flat_map (drep_lines f.epoch c.args.c.now a) f.dreps ++ predefined_lines c.args.c.now a) (pool_part_lines f a)
    c.in_ok-put_members.ensures c.in_ok-put_dreps.ensures c.put_pools.ensures

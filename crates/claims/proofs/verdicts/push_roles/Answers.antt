use Rattle.std.proofs.lemmas.Result.{on_ok_weaker}
use Rattle.report.proofs.Roles.{role_by_role}
use Rattle.claims.proofs.verdicts.push_roles.Goals as goal

pub returns : goal.returns
returns c = on_ok_weaker c.push_role-3.result
    (role_by_role c.args.out.now.items c.push_role.new.out.items c.push_role-2.new.out.items c.push_role-3.new.out.items c.args.counts.now c.args.needs.now
    c.index-needs-0.result c.index-needs-1.result c.index-needs-2.result c.told-counts c.type_inv.needs c.in_ok-push_role.ensures c.in_ok-push_role-2.ensures)
    c.push_role-3.ensures

use Rattle.std.proofs.Common.{◌≡◌, None, rules}
use Rattle.maps.specs.Maps.{value_at}
use Rattle.view_map.proofs.Changed.{key_absent}
use Rattle.view_map.proofs.replace.Goals as goal

pub returns-in-Vacant-clause-key : goal.returns-in-Vacant-clause-key
returns-in-Vacant-clause-key g c =
    let none : value_at g.K.Ord.cmp c.args.live.now.entries c.args.k ≡ None = search rules in
    key_absent g.K.Ord.cmp c.args.live.now.entries c.args.k none

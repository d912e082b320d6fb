use Rattle.std.proofs.Common.{◌≡◌, None, rules}
use Rattle.maps.proofs.Lookups.{without_key_absent}
use Rattle.maps.specs.Maps.{value_at, without_key}
use Rattle.view_map.proofs.change.keep_and_follow.Goals as goal

pub returns-in-Err-clause-err : goal.returns-in-Err-clause-err
returns-in-Err-clause-err g c =
    let none : value_at g.K.Ord.cmp c.args.kept.now.entries c.args.k ≡ None = search rules in
    let stays : without_key g.K.Ord.cmp c.args.k c.args.kept.now.entries ≡ c.args.kept.now.entries = without_key_absent g.K.Ord.cmp c.args.k c.args.kept.now.entries none in
    search rules

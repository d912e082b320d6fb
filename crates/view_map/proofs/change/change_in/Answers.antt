use Rattle.std.proofs.Common.{◌≡◌, None, rules}
use Rattle.maps.proofs.Lookups.{without_key_absent}
use Rattle.maps.specs.Maps.{value_at, without_key}
use Rattle.view_map.proofs.change.change_in.Goals as goal

pub returns-in-Err-clause-live_err : goal.returns-in-Err-clause-live_err
returns-in-Err-clause-live_err g c =
    let none : value_at g.K.Ord.cmp c.args.live.now.entries c.args.k ≡ None = search rules in
    let stays : without_key g.K.Ord.cmp c.args.k c.args.live.now.entries ≡ c.args.live.now.entries = without_key_absent g.K.Ord.cmp c.args.k c.args.live.now.entries none in
    search rules

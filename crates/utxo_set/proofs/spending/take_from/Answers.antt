use Rattle.std.proofs.Common.{◌≡◌, None, rules}
use Rattle.gov_ids.specs.Orders.{outref_cmp}
use Rattle.maps.proofs.Lookups.{without_key_absent}
use Rattle.maps.specs.Maps.{value_at, without_key}
use Rattle.utxo_set.proofs.spending.take_from.Goals as goal

pub returns-in_default-clause-rest : goal.returns-in_default-clause-rest
returns-in_default-clause-rest g c =
    let none : value_at outref_cmp c.args.outputs.now.entries c.args.r ≡ None = search rules in
    let stays : without_key outref_cmp c.args.r c.args.outputs.now.entries ≡ c.args.outputs.now.entries = without_key_absent outref_cmp c.args.r c.args.outputs.now.entries none in
    search rules

pub returns-in-Vacant-clause-rest : goal.returns-in-Vacant-clause-rest
returns-in-Vacant-clause-rest g c =
    let none : value_at outref_cmp c.args.outputs.now.entries c.args.r ≡ None = search rules in
    let stays : without_key outref_cmp c.args.r c.args.outputs.now.entries ≡ c.args.outputs.now.entries = without_key_absent outref_cmp c.args.r c.args.outputs.now.entries none in
    search rules

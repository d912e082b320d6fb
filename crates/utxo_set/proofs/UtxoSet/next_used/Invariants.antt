use Rattle.std.proofs.Common.{◌≡◌, map, option_map}
use Rattle.std.specs.Map.Iter.{deref}
use Rattle.gov_ids.specs.Orders.{txid_cmp}
use Rattle.maps.specs.Maps.{in_order, key_after}
use Rattle.utxo_set.proofs.UtxoSet.next_used.Given as goal

abbrev pub invariant-loop-id : goal.invariant-loop-id
invariant-loop-id l = l.next ≡ key_after txid_cmp (option_map (λ a. a.now) l.after) (in_order txid_cmp (map deref l.yielded))

use Rattle.std.proofs.Common.{◌≡◌, ap, map, ◌∙◌, rules}
use Rattle.std.specs.Map.Iter.{deref}
use Rattle.std.proofs.lemmas.Map.Iter.{iter_end}
use Rattle.utxo_set.specs.Utxos.{Utxos}
use Rattle.utxo_set.proofs.Used.{sorted_ids}
use Rattle.utxo_set.proofs.UtxoSet.used_ids.Goals as goal

pub returns-clause-ids : goal.returns-clause-ids
returns-clause-ids c =
    let all : map deref c.loop-id.yielded ≡ c.self.inside.used.keys = search (rules, iter_end) in
    sorted_ids c.loop-id.ids.items c.sort_unstable.new.self.items c.self.inside.used.keys (ap (map deref) c.loop-id.invariant ∙ all) c.len.ensures.unique c.sort_unstable.ensures.permutation c.sort_unstable.ensures.sorted
    ∙ ap (λ (u : Utxos). u.used) c.self.view_is

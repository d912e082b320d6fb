use Rattle.std.proofs.Common.{List, ap, ◌∙◌}
use Rattle.gov_ids.proofs.Totals.{txid_total}
use Rattle.gov_ids.specs.declared.TxId.{TxId}
use Rattle.gov_ids.specs.Orders.{txid_cmp}
use Rattle.maps.proofs.Sets.{IsSet-in_order}
use Rattle.maps.specs.Maps.{without_member}
use Rattle.utxo_set.specs.Utxos.{Utxos}
use Rattle.utxo_set.proofs.Used.{used_without}
use Rattle.utxo_set.proofs.UtxoSet.unmark.Goals as goal

pub invariant_of-self : goal.invariant_of-self
invariant_of-self c = (
  c.self.invariant.0,
  record { outputs = c.self.invariant.1.outputs; used = IsSet-in_order txid_total c.remove.new.self.keys },
  c.self.invariant.2,
  c.self.invariant.3,
)

pub returns : goal.returns
returns c =
    ap (λ (ids : List TxId). record { outputs = c.self.inside.outputs.entries; used = ids }) (used_without c.args.id.now c.self.inside.used.keys c.remove.new.self.keys c.remove.ensures.updates.0)
    ∙ ap (λ (u : Utxos). record u { used = without_member txid_cmp c.args.id.now u.used }) c.self.view_is

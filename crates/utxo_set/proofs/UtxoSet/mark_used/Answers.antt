use Rattle.std.proofs.Common.{List, ap, ◌∙◌}
use Rattle.gov_ids.proofs.Totals.{txid_total}
use Rattle.gov_ids.specs.declared.TxId.{TxId}
use Rattle.gov_ids.specs.Orders.{txid_cmp}
use Rattle.maps.proofs.Sets.{IsSet-in_order}
use Rattle.maps.specs.Maps.{with_key}
use Rattle.utxo_set.specs.Utxos.{Utxos}
use Rattle.utxo_set.proofs.Used.{used_with}
use Rattle.utxo_set.proofs.UtxoSet.mark_used.Goals as goal

pub invariant_of-self-2 : goal.invariant_of-self-2
invariant_of-self-2 c = (
  c.self.invariant.0,
  record { outputs = c.self.invariant.1.outputs; used = IsSet-in_order txid_total c.insert.new.self.keys },
  c.self.invariant.2,
  c.self.invariant.3,
)

pub returns-clause-ok : goal.returns-clause-ok
returns-clause-ok c =
    ap (λ (ids : List TxId). record { outputs = c.self.inside.outputs.entries; used = ids }) (used_with c.args.id c.self.inside.used.keys c.insert.new.self.keys c.in_ok-insert.ensures.updates.0)
    ∙ ap (λ (u : Utxos). record u { used = with_key txid_cmp c.args.id u.used }) c.self.view_is

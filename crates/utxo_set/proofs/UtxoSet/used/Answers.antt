use Rattle.std.proofs.Common.{ap, ◌∙◌}
use Rattle.gov_ids.specs.Orders.{txid_cmp}
use Rattle.maps.specs.Maps.{has_member}
use Rattle.utxo_set.specs.Utxos.{Utxos}
use Rattle.utxo_set.proofs.Used.{is_used}
use Rattle.utxo_set.proofs.UtxoSet.used.Goals as goal

pub returns-clause-member : goal.returns-clause-member
returns-clause-member c =
    c.contains.ensures ∙ is_used c.args.id.now c.self.inside.used.keys
    ∙ ap (λ (u : Utxos). has_member txid_cmp u.used c.args.id.now) c.self.view_is

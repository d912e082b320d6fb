use Rattle.std.proofs.Common.{◌≡◌, ℕ, List, [], refl, sym, subst}
use Rattle.std.specs.List.Sorted.{IsStrictlySortedBy}
use Rattle.book_records.specs.of_assets.Totals.{AreTotals, total_at}
use Rattle.book_records.specs.declared.Output.{Output}
use Rattle.book_records.specs.Outputs.{assets_in, lovelace_in}
use Rattle.gov_ids.proofs.Totals.{txid_total}
use Rattle.gov_ids.specs.declared.assets.AssetId.{AssetId}
use Rattle.gov_ids.specs.declared.OutRef.{OutRef}
use Rattle.gov_ids.specs.declared.TxId.{TxId}
use Rattle.gov_ids.specs.Orders.{txid_cmp}
use Rattle.maps.proofs.Sets.{IsSet-in_order}
use Rattle.maps.specs.Maps.{in_order}
use Rattle.utxo_set.specs.Utxos.{IsInOrder}
use Rattle.utxo_set.proofs.UtxoSet.new.Goals as goal

-- what holds of an empty book
Holds : List (OutRef × Output) → List (AssetId × ℕ) → List TxId → Type 0
Holds outputs totals ks = (0 ≡ lovelace_in outputs) × IsInOrder (record { outputs = outputs; used = in_order txid_cmp ks }) × AreTotals totals × ((k : AssetId) → total_at totals k ≡ assets_in outputs k)

none : (ks : List TxId) → Holds [] [] ks
unfolding Holds IsStrictlySortedBy
none ks = (refl, record { outputs = tt; used = IsSet-in_order txid_total ks }, (tt, tt), λ k. refl)

pub invariant_of-result : goal.invariant_of-result
unfolding Holds
invariant_of-result c =
    subst (λ (outputs : List (OutRef × Output)). Holds outputs c.new-2.result c.with_hasher.result.keys) (sym c.new.ensures.empty)
    (subst (λ (totals : List (AssetId × ℕ)). Holds [] totals c.with_hasher.result.keys) (sym c.new-2.ensures) (none c.with_hasher.result.keys))

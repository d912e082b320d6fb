-- The unspent outputs and the used transaction ids, as plain lists.
use Rattle.std.specs.Prelude.{Bool, true, List, Option, None, Some}
use Rattle.std.specs.declared.cmp.Ordering.{Ordering}
use Rattle.std.specs.Ordering.{is_lt}
use Rattle.gov_ids.specs.declared.OutRef.{OutRef}
use Rattle.gov_ids.specs.declared.TxId.{TxId}
use Rattle.gov_ids.specs.Orders.{outref_cmp, txid_cmp}
use Rattle.book_records.specs.declared.Output.{Output}
use Rattle.maps.specs.Maps.{IsMap, IsSet}

-- the unspent outputs by reference, and the used ids, each in order
pub record Utxos : Type 0 where
  pub outputs : List (OutRef × Output)
  pub used : List TxId

-- each reference and each id is there once, in order
pub record IsInOrder (u : Utxos) : Type 0 where
  pub outputs : IsMap outref_cmp u.outputs
  pub used : IsSet txid_cmp u.used

-- whether q comes before a key; without a key every q does
abbrev pub comes_below : {K : Type 0} → (K → K → Ordering) → Option K → K → Bool
comes_below cmp None q = true
comes_below cmp (Some k) q = is_lt (cmp q k)

-- What the inputs of a transaction hold, beside the rules that are tried on the way. (Own)
use Rattle.std.specs.Prelude.{◌≡◌, ◌+◌, ◌-◌, ◌*◌, ◌^◌, ◌≤◌, Bool, not, ◌||◌, List, Result, Ok, Err, ⊤, length, sum_by}
use Rattle.std.specs.List.{list_any}
use Rattle.gov_ids.specs.declared.OutRef.{OutRef}
use Rattle.ledger_model.specs.Ledger.{Ledger}
use Rattle.ledger_model.specs.UtxoRules.{assets_at, lovelace_at}
use Rattle.maps.specs.Words.{is_empty}
use Rattle.utxo_rules.specs.declared.holdings.Spent.{Spent}

-- an answer that has a value, without the value
abbrev pub without_value : {X E : Type 0} → Result X E → Result ⊤ E
without_value (Ok x) = Ok tt
without_value (Err e) = Err e

-- whether an unspent output holds an asset
abbrev pub has_assets_at : Ledger → OutRef → Bool
has_assets_at l r = not (is_empty (assets_at l r))

-- what both hold
abbrev pub both : Spent → Spent → Spent
both some others = record { lovelace = some.lovelace + others.lovelace; has_assets = some.has_assets || others.has_assets }

-- what the unspent outputs at these references hold; the lovelace of each fits in 64 bits
pub record IsSpent (l : Ledger) (refs : List OutRef) (spent : Spent) : Type 0 where
  pub sum : spent.lovelace ≡ sum_by (lovelace_at l) refs
  pub fits : spent.lovelace ≤ length refs * (2 ^ 64 - 1)
  pub assets : spent.has_assets ≡ list_any (has_assets_at l) refs

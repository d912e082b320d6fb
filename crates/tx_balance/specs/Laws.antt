-- The laws on one transaction; src/laws.rt has a function for each, whose contract is the law.
use Rattle.std.specs.Prelude.{◌≡◌, ◌+◌, true, false, List, map}
use Rattle.maps.specs.Words.{repeats}
use Rattle.assets.specs.Quantities.{all_burned, all_minted, quantity_of}
use Rattle.book_records.specs.Outputs.{assets_in}
use Rattle.gov_ids.specs.declared.assets.AssetId.{AssetId}
use Rattle.gov_ids.specs.Orders.{account_cmp}
use Rattle.tx_records.specs.declared.report.Pots.{Pots}
use Rattle.tx_records.specs.declared.tx.Tx.{Tx}
use Rattle.ledger_model.specs.Ledger.{Ledger}
use Rattle.ledger_model.specs.UtxoRules.{is_failed}
use Rattle.ledger_model.specs.Sound.{IsSound}
use Rattle.ledger_model.specs.Supply.{pots_of, supply_of, total_of}
use Rattle.ledger_model.specs.Broken.{is_allowed}
use Rattle.ledger_model.specs.Flows.{Flow, flows_of_tx}
use Rattle.ledger_model.specs.Moves.{IsMovedBy}
use Rattle.ledger_model.specs.Transaction.{ledger_after_tx}

-- an allowed transaction whose scripts failed moves the pots by its flows
abbrev pub FailedBalances : Type 0
FailedBalances = (l : Ledger) (tx : Tx) → IsSound l → is_failed tx.scripts ≡ true → is_allowed l tx ≡ true →
    IsMovedBy (flows_of_tx l tx) (pots_of l) (pots_of (ledger_after_tx l tx))

-- no account is named twice in its withdrawals
abbrev pub HasOwnWithdrawals : Tx → Type 0
HasOwnWithdrawals tx = repeats account_cmp (map (λ x. x.0) tx.withdrawals) ≡ false

-- and so does one whose scripts did not fail, which withdraws from no account twice
abbrev pub PassedBalances : Type 0
PassedBalances = (l : Ledger) (tx : Tx) → IsSound l → HasOwnWithdrawals tx → is_failed tx.scripts ≡ false →
    is_allowed l tx ≡ true → IsMovedBy (flows_of_tx l tx) (pots_of l) (pots_of (ledger_after_tx l tx))

-- an allowed transaction whose scripts did not fail changes what unspent outputs hold of an asset
-- by what it mints and burns of it
abbrev pub PassedMints : Type 0
PassedMints = (l : Ledger) (tx : Tx) → IsSound l → is_failed tx.scripts ≡ false → is_allowed l tx ≡ true → (a : AssetId) →
    assets_in (ledger_after_tx l tx).outputs a + quantity_of (all_burned tx.mint) a
    ≡ assets_in l.outputs a + quantity_of (all_minted tx.mint) a

-- and one whose scripts failed changes nothing of it
abbrev pub FailedKeepsAssets : Type 0
FailedKeepsAssets = (l : Ledger) (tx : Tx) → IsSound l → is_failed tx.scripts ≡ true → is_allowed l tx ≡ true → (a : AssetId) →
    assets_in (ledger_after_tx l tx).outputs a ≡ assets_in l.outputs a

-- pots that are moved by flows hold as much together as before
abbrev pub MovesKeepSupply : Type 0
MovesKeepSupply = (flows : List Flow) (old new : Pots) → IsMovedBy flows old new → total_of new ≡ total_of old

-- an allowed transaction leaves a sound ledger sound
abbrev pub AllowedStaysSound : Type 0
AllowedStaysSound = (l : Ledger) (tx : Tx) → IsSound l → is_allowed l tx ≡ true → IsSound (ledger_after_tx l tx)

-- and its supply, which the pots hold as before
abbrev pub AllowedKeepsSupply : Type 0
AllowedKeepsSupply = (l : Ledger) (tx : Tx) → IsSound l → HasOwnWithdrawals tx → is_allowed l tx ≡ true →
    ((ledger_after_tx l tx).supply ≡ l.supply) × (supply_of (ledger_after_tx l tx) ≡ supply_of l)

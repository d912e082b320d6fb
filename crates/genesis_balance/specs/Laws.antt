-- The laws on the ledger of a genesis; src/laws.rt has a function for each law.
use Rattle.std.specs.Prelude.{◌≡◌, None}
use Rattle.run_model.specs.of_tx_records.declared.genesis.Genesis.{Genesis}
use Rattle.run_model.specs.of_ledger_model.Sound.{IsSound}
use Rattle.run_model.specs.of_ledger_model.Supply.{supply_of}
use Rattle.run_model.specs.Genesis.{genesis_fault, ledger_of_genesis}

-- the ledger of a genesis is sound
abbrev pub GenesisIsSound : Type 0
GenesisIsSound = (g : Genesis) → IsSound (ledger_of_genesis g)

-- the pots of one that breaks no rule hold its supply
abbrev pub GenesisHoldsSupply : Type 0
GenesisHoldsSupply = (g : Genesis) → genesis_fault g ≡ None → supply_of (ledger_of_genesis g) ≡ g.supply

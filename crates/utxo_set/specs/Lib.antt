pub mod Utxos

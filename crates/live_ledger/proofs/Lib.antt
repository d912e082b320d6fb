pub use Rattle.tx_balance.proofs as proofs_of_tx_balance
pub mod Puts
pub mod Replacing
pub mod Starting
pub mod Balances
pub mod Proposing
pub mod Cleared
pub mod Committing
pub mod Parts
pub mod Timely
pub mod DraftChanging
pub mod Slots

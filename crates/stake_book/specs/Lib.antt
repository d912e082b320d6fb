pub use Rattle.utxo_set.specs as of_utxo_set
pub use Rattle.accounts.specs as of_accounts
pub mod Changes
pub mod Delegators
pub mod Ended
pub mod Paid
pub mod Stakes
pub mod Summed
pub mod Sums
pub mod Unchanged

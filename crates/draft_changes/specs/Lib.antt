pub use Rattle.ledger_books.specs as of_ledger_books
pub mod Changed
pub mod ChangedAccounts
pub mod ChangedDreps
pub mod Covered
pub mod ChangedHot
pub mod ChangedPools
pub mod ChangedParts
pub mod Numbered
pub mod Balances
pub mod Names

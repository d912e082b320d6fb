pub use Rattle.stake_book.specs as of_stake_book
pub mod Deposits
pub mod Pools
pub mod Laws

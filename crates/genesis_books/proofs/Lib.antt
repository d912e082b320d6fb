pub use Rattle.genesis_balance.proofs as proofs_of_genesis_balance
pub mod Walks
pub mod MemberWalks
pub mod Listings
pub mod Frozen
pub mod FirstBook

pub use Rattle.formed_laws.proofs as proofs_of_formed_laws
pub mod Ids
pub mod Updates
pub mod Actions
pub mod Entries
pub mod Lines

pub use Rattle.run_laws.proofs as proofs_of_run_laws
pub use Rattle.epoch_start.proofs.proofs_of_genesis_books
pub mod Amounts
pub mod Steps
pub mod Worlds

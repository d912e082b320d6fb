pub use Rattle.ledger_state.proofs.proofs_of_run_laws
pub use Rattle.ledger_state.proofs as proofs_of_ledger_state
pub mod Counting
pub mod Steady
pub mod Crossing
pub mod Ahead

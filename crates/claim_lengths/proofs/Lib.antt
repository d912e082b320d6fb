pub use Rattle.further_laws.proofs.proofs_of_run_laws
pub use Rattle.further_laws.proofs as proofs_of_further_laws
pub mod Claims

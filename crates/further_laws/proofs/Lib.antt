pub use Rattle.run_laws.proofs as proofs_of_run_laws
pub mod Standing
pub mod Followed
pub mod Resumed
pub mod Parts
pub mod Verdicts
pub mod Reached
pub mod Sound
pub mod Fronted
pub mod Kept
pub mod Delegations
pub mod Chained
pub mod ChainedRuns
pub mod Proposed
pub mod Widths
pub mod Lengths

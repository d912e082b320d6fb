pub use Rattle.follow_steps.proofs.proofs_of_further_laws
pub use Rattle.follow_steps.proofs as proofs_of_follow_steps
pub mod Lines
pub mod Turned
pub mod Told
pub mod Streams

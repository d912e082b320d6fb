pub use Rattle.further_laws.proofs as proofs_of_further_laws
pub mod Pulses
pub mod Later
pub mod Steps

pub use Rattle.run_laws.proofs as proofs_of_run_laws
pub use Rattle.gathered_lines.proofs as proofs_of_gathered_lines
pub mod Numbers
pub mod Lines
pub mod Counts
pub mod Complete
pub mod LawsHold
pub mod Played
pub mod Answered
pub mod Texts
pub mod Loads
pub mod Shortfalls
pub mod Outlooks
pub mod Worded
pub mod Lasts
pub mod Certificates
pub mod Workers

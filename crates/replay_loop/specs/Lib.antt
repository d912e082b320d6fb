pub use Rattle.certificate_model.specs as of_certificate_model
pub mod Runs
pub mod Laws
pub mod Statuses
pub mod Endings
pub mod Outcomes
pub mod Answers
pub mod Plays
pub mod Texts
pub mod Turns
pub mod Counts
pub mod Loads
pub mod Lasts
pub mod Certificates
pub mod Ports
pub mod Tells

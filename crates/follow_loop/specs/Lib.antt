pub use Rattle.follow_steps.specs as of_follow_steps
pub mod Readings
pub mod Outcomes
pub mod Plays
pub mod Answers
pub mod Turns
pub mod Laws

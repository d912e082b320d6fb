pub use Rattle.tally.specs as of_tally
pub mod Passes
pub mod Outcomes
pub mod Wholes

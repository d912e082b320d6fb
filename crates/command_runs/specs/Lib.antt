pub use Rattle.replay_loop.specs as of_replay_loop
pub mod Tasks
pub mod Explained
pub mod Followed
pub mod Endings
pub mod RunsAs
pub mod Inputs
pub mod Clauses

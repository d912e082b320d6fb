pub use Rattle.replay_loop.specs as of_replay_loop
pub mod Applied
pub mod Faults

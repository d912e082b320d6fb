pub use Rattle.replay_loop.specs as of_replay_loop
pub mod Heads
pub mod Reading
pub mod Plays
pub mod Resumed

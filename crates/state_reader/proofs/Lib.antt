pub mod Passing
pub mod Heads
pub mod Forms
pub mod States
pub mod Sounds
pub mod Reading
pub mod Ended
pub mod Checkpoints

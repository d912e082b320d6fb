pub mod Checkpoint
pub mod Resumable
pub mod Resumed
pub mod Laws

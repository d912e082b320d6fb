pub mod Turned
pub mod Explaining
pub mod Stopping

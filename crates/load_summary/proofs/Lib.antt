pub mod Writing
pub mod Counted

pub mod Runs
pub mod Names
pub mod Values
pub mod Parts

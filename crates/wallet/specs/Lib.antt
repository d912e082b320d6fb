pub mod Starts
pub mod Parts
pub mod Questions
pub mod Asking

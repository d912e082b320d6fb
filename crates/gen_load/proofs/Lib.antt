pub mod Commas
pub mod Ranges
pub mod OneRead
pub mod Steps
pub mod Together

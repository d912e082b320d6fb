pub mod Frozen
pub mod Kept
pub mod LineWords
pub mod Sources

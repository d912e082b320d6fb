pub mod Words
pub mod Frozen

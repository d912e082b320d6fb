pub mod Noted
pub mod Counts

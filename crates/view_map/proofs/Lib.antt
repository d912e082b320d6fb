mod Changed
pub mod Entries
mod Kept
mod Marks
mod Merged
mod Walk

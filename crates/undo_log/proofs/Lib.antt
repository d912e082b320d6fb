mod Searches
mod Orders
pub mod Undone
mod Parts

pub mod Steps
pub mod Kinds
pub mod Lists
pub mod Reads
pub mod Entries

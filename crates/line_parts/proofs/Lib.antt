mod Starts
pub mod Lefts
mod Sequences
mod Repeats
mod Groups

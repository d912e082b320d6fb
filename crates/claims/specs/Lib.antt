pub mod Lines
pub mod PartLines
pub mod Blocks

pub mod KeptBlocks
pub mod Marks
pub mod Undoing
pub mod Logs
pub mod Following
pub mod Leading
pub mod Moving

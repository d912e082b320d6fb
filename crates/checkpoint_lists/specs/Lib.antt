pub mod Pots
pub mod Rows
pub mod Shown
pub mod Sections

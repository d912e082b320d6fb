pub mod Marks
pub mod View
pub mod Walk

mod Ordered
pub mod Parts

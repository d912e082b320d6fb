pub mod Parts
mod Ranges

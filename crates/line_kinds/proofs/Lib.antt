mod Digits
pub mod Lined
mod Spaces
mod Backs

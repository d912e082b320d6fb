pub mod Passing
pub mod UpTo

pub mod Repeated
pub mod Spent
pub mod Plain
pub mod Raised

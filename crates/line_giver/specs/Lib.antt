pub mod Giving
pub mod Sourced
pub mod OfList

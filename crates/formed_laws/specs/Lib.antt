pub mod Records
pub mod Worlds
pub mod Laws
pub mod Counts

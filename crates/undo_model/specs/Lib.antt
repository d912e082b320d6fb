pub mod Undone
pub mod Holds
pub mod Laws

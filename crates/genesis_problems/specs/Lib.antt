pub mod Problems
pub mod Laws
pub mod Listing

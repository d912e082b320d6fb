pub mod Bools
pub mod Ordered
pub mod Sums
pub mod Following
pub mod Matching
pub mod Formed

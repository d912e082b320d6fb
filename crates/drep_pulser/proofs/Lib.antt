pub mod Walking
pub mod Covered
pub mod Kept
pub mod Begun
pub mod Advance
pub mod Adding
pub mod Later
pub mod Closing
pub mod Parted
mod Ordered

pub mod Logged
pub mod Follows
pub mod Begins
pub mod Moves

mod Becoming
mod Clearing
mod Counting
mod Entering
mod Kept
mod Moves
mod Paying
mod Raised
mod Registrations
mod Sums
mod Weights
pub mod Ended

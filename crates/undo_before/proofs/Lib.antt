pub mod Maps
pub mod Touched
pub mod Spending
pub mod Voting
pub mod Stepping
pub mod Passed

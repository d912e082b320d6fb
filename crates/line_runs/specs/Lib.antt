pub mod Batches
pub mod Plays
pub mod Runs
pub mod Turns
pub mod Loop

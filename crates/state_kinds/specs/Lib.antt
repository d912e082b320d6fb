pub mod States
pub mod Proposals
pub mod Heads

pub mod Fields
pub mod Ids
mod BookLaws
pub mod VoteLaws
mod OutputLaws
pub mod Shares
mod PoolLaws
mod FrozenLaws

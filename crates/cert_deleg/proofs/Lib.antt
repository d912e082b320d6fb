pub mod Emptying
pub mod Delegating

pub mod Accounts
pub mod Worlds

pub mod Present
pub mod Places
pub mod Accounts
pub mod ColdKeys

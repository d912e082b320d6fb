pub mod Calls
pub mod Owned

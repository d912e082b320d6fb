pub mod Amounts
pub mod Credited

pub mod Lists
pub mod Dormant

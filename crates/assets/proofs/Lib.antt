mod Lists
mod Values
pub mod Quantities
mod Sums
mod Balanced

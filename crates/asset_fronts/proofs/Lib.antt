pub mod Balances
pub mod Fronts
pub mod Lowest
pub mod Uneven

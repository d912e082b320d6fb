pub mod Quantities
pub mod Balances
pub mod Totals

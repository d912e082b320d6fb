pub mod Ledgers
pub mod Cuts

pub mod Faults
pub mod Only

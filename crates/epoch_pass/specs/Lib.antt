pub mod Reported
pub mod Removals

pub mod Counting
pub mod Reported
pub mod Targeted

pub mod Grouped
pub mod Certified
pub mod Stepped

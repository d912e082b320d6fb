pub mod Whole
pub mod Params
pub mod Actions

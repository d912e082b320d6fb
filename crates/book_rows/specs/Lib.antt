pub mod Rows
pub mod Assets

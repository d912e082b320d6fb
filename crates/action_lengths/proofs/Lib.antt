pub mod Texts
pub mod Members
pub mod Fitting
pub mod Updating
pub mod Acting
pub mod Lines

pub mod Laws
pub mod Stakes
pub mod Targets

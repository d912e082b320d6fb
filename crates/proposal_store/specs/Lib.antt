pub mod Families
pub mod Store
pub mod Leaving
pub mod Voted
pub mod Changes
pub mod Added

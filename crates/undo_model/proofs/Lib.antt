mod OldMaps
pub mod Undoing
mod Naming
pub mod Stepping

pub mod BookParts
pub mod Each
pub mod Formed
pub mod Found
pub mod GovernedParts
pub mod ListParts
pub mod LiveParts
pub mod Shown

pub mod Fronts
pub mod Enacting
pub mod Steps
pub mod Expiring
pub mod Told
pub mod Orders

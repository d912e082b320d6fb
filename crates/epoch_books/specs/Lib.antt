pub mod Retirements
pub mod Rewarded

mod Weights
mod StakesAre
mod PartsAre
pub mod Passed
mod Priorities

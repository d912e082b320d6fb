pub mod Faults
pub mod Laws
pub mod Only
pub mod Resumed
pub mod Shown
pub mod Standing
pub mod Verdicts

pub mod Adopting
pub mod Finding
pub mod Standing
pub mod Walking

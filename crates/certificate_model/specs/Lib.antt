pub mod Parts
pub mod Certificate
pub mod Fits
pub mod Checked
pub mod Laws

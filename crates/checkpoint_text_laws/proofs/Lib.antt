pub mod Free
pub mod Cut
pub mod Ids
pub mod Actions
pub mod Rows
pub mod Checkpoint
pub mod Certificate

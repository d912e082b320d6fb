pub use Rattle.checkpoint_model.specs as of_checkpoint_model
pub mod Words
pub mod Books
pub mod Outputs
pub mod Pools
pub mod Frozen

pub use Rattle.ratify.specs as of_ratify
pub use Rattle.epoch_pass.specs as of_epoch_pass
pub mod Decisions
pub mod Halves

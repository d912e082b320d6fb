pub use Rattle.undo_back.specs as of_undo_back
pub mod Logs
pub mod Back

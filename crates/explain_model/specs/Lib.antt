pub use Rattle.genesis_problems.specs as of_genesis_problems
pub use Rattle.record_notes.specs as of_record_notes
pub mod Broken
pub mod Explained
pub mod Laws

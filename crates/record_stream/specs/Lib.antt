pub use Rattle.record_read.specs.of_action_read
pub use Rattle.record_read.specs as of_record_read
pub mod Records
pub mod Come

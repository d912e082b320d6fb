pub use Rattle.record_stream.specs as of_record_stream
pub mod Paths
pub mod Notes
pub mod Lines
pub mod Seen
pub mod Laws

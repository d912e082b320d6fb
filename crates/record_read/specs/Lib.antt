pub use Rattle.action_read.specs as of_action_read
pub mod Faults
pub mod LineFaults
pub mod Fields
pub mod Entries
pub mod Certs
pub mod Records
pub mod Lines
pub mod Reads

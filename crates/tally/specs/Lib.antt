pub use Rattle.drep_pulser.specs as of_drep_pulser
pub mod Adding
pub mod Active
pub mod Stakes
pub mod Greatest
pub mod Counted
pub mod Cells
pub mod Silent

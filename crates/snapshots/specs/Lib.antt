pub use Rattle.gov_model.specs as of_gov_model
pub mod Frozen

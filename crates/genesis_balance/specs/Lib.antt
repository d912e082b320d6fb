pub use Rattle.run_model.specs.of_ledger_model
pub use Rattle.run_model.specs as of_run_model
pub mod Laws

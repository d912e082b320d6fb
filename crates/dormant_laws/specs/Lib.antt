pub use Rattle.run_model.specs as of_run_model

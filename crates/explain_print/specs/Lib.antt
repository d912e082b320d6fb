pub use Rattle.explain_model.specs as of_explain_model

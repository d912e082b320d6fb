pub use Rattle.explain_print.specs.of_explain_model
pub mod Plays
pub mod Turns
pub mod Laws

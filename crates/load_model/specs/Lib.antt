pub use Rattle.text_model.specs as of_text_model
pub mod Json
pub mod Names
pub mod Amounts
pub mod Genesis
pub mod Stream
pub mod Summary
pub mod SummaryText

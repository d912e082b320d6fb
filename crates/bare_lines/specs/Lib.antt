pub use Rattle.text_forms.specs.of_text_model
pub use Rattle.text_forms.specs as of_text_forms
pub use Rattle.report.specs as of_report
pub mod Lent
pub mod Bare

pub use Rattle.text_model.specs.of_tx_records
pub use Rattle.text_model.specs.of_gov_model
pub use Rattle.text_model.specs.of_ledger_model
pub use Rattle.text_model.specs.of_run_model
pub use Rattle.text_model.specs as of_text_model
pub mod Lines
pub mod ActionText
pub mod Ids
pub mod Books
pub mod Actions
pub mod States
pub mod Snapshots
pub mod Worlds

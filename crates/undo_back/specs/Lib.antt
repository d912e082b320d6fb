pub use Rattle.ledger_state.specs as of_ledger_state
pub mod Steps
pub mod Undoable

pub use Rattle.ledger_state.proofs as proofs_of_ledger_state
mod PutBack
mod Rooms
mod Votes
pub mod Undoing

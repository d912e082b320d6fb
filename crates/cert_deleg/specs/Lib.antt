pub use Rattle.live_ledger.specs.of_draft_changes
pub use Rattle.live_ledger.specs as of_live_ledger
pub mod Certs
pub mod Emptied

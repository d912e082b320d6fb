pub use Rattle.epoch_start.specs.of_ledger_books
pub use Rattle.live_ledger.specs as of_live_ledger
pub use Rattle.epoch_start.specs as of_epoch_start
pub mod Worlds
pub mod Parts
pub mod Held
pub mod Starts
pub mod Blocks

pub use Rattle.tx_rule.specs as of_tx_rule
pub mod Old
pub mod Names
pub mod Held

pub use Rattle.accounts.specs as of_accounts
pub mod Count
pub mod Facts
pub mod Parts
pub mod Places
pub mod Pulsers
pub mod Visits

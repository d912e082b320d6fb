pub use Rattle.cert_deleg.specs.of_live_ledger
pub mod Drafted
pub mod Judged
pub mod Parts

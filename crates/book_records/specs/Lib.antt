pub use Rattle.coin_frac.specs as of_coin_frac
pub use Rattle.gov_ids.specs as of_gov_ids
pub use Rattle.assets.specs as of_assets
pub mod Hashes
pub mod Outputs
pub mod Pools
pub mod Dormancy
pub mod Delegations

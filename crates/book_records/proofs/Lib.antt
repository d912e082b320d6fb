pub use Rattle.gov_ids.proofs as proofs_of_gov_ids
pub use Rattle.assets.proofs as proofs_of_assets

pub mod AssetTotals
pub mod ParamTexts
pub mod SnapshotNames
pub mod StateTexts

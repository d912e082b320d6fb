pub mod Gives
pub mod InOrder
pub mod AssetsGive
pub mod KindsGive
pub mod RecordsGive

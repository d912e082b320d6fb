pub mod Delegations
pub mod Order
pub mod Purposes
pub mod Forms
pub mod Frozen
pub mod Sums

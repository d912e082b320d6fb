pub mod Put
pub mod Noted
pub mod Stored
pub mod Counted

pub mod Cuts
pub mod Kinds
pub mod Numbers

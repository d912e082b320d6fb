pub mod Only
pub mod Present
pub mod Shows

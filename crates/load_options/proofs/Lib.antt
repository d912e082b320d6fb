pub mod Reading
pub mod Asked

pub mod Pieces
pub mod Readings
pub mod FrozenLines
pub mod Streams

pub mod Entries
pub mod Telling
pub mod Tests
pub mod Lines
pub mod Making
pub mod Readable

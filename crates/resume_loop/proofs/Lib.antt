pub mod Turned
pub mod Played
pub mod Begun
pub mod Ends
pub mod HeadRead

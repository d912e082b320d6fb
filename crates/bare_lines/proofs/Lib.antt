pub mod LentPuts
pub mod Joined

pub mod Joined
pub mod Puts
pub mod Handed
pub mod Roles
pub mod RulesFound
pub mod SinkBytes

pub mod Fronts
mod Cuts
mod Endings
mod Steps
mod Lines
mod Exits
mod Ends
mod Turning
pub mod Gathers

pub mod Firsts
pub mod Groups
pub mod Faults
pub mod Telling

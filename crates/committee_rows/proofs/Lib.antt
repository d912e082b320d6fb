pub mod Committees

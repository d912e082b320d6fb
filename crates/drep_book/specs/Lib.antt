pub mod Dreps

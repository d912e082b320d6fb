pub mod Certs
pub mod Acted

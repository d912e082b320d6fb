pub mod Alike
pub mod Walks
pub mod Laws

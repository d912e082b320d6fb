pub mod Silent
pub mod ShortLines
pub mod Laws

pub use Rattle.formed_laws.specs as of_formed_laws
pub mod Laws

pub use Rattle.genesis_books.proofs as proofs_of_genesis_books
pub mod Begun

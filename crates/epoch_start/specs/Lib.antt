pub use Rattle.ledger_books.specs as of_ledger_books
pub mod Begun

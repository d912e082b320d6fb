pub use Rattle.book_records.specs as of_book_records
pub mod Reaping
pub mod Keys

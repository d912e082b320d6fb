pub mod Words
pub mod Lexemes
pub mod Tokens
pub mod Grammar
pub mod Values

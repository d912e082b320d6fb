pub mod Views
mod Digits
mod Reading
mod Texts

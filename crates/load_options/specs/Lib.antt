pub mod Options
pub mod Numbers
pub mod Workers
pub mod Command
pub mod Table

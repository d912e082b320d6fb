pub mod Items
pub mod Kinds
pub mod Rows
pub mod Shapes

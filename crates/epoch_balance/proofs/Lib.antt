pub mod Payments
pub mod StepMoves
pub mod Removals
pub mod Whole
pub mod Covered

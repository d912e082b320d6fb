pub mod Fraction
pub mod Reaches
pub mod Totals

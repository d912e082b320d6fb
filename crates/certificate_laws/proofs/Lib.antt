pub mod Ends
pub mod Fitting
pub mod Right
pub mod Fronts
pub mod Answered

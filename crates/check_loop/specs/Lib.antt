pub mod Faults
pub mod Texts
pub mod Checked
pub mod Next
pub mod Right

pub use Rattle.certificate_lists.specs as of_certificate_lists
pub mod Told
pub mod Fitting

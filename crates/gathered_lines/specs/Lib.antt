pub use Rattle.bare_lines.specs as of_bare_lines
pub mod Through

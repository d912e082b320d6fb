pub use Rattle.stake_book.specs as of_stake_book
pub use Rattle.draft_changes.specs as of_draft_changes
pub mod Kept
pub mod Standing
pub mod Starts
pub mod Drafts
pub mod Moved
pub mod Books
pub mod DraftParts
pub mod Proposed

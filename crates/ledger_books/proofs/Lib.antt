pub use Rattle.committee_book.proofs as proofs_of_committee_book
pub use Rattle.proposal_store.proofs as proofs_of_proposal_store

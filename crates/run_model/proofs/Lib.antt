pub use Rattle.ledger_model.proofs as proofs_of_ledger_model

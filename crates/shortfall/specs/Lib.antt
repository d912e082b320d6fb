pub use Rattle.ledger_state.specs.of_live_ledger

-- The parts of a ledger hold the supply after a step whose flows are known.
use Rattle.std.proofs.Common.{◌≡◌, ◌≤◌, ℕ, List, [], sym, subst, ◌∙◌}
use Rattle.gov_model.specs.Snapshot.{Snapshot}
use Rattle.ledger_books.specs.declared.Books.{Books}
use Rattle.ledger_books.specs.Parts.{HoldsSupply, ledger_of_books}
use Rattle.ledger_model.specs.Flows.{Flow}
use Rattle.ledger_model.specs.Moves.{IsMovedBy}
use Rattle.ledger_model.specs.Supply.{pots_of}
use Rattle.tx_balance.proofs.Supplies.{moves_keep_supply}
use Rattle.coin_frac.specs.declared.TheConstants.{SUPPLY_LIMIT}

pub held_after : (b r : Books) (flows : List Flow) → HoldsSupply b → r.supply ≡ b.supply → IsMovedBy flows (pots_of (ledger_of_books b)) (pots_of (ledger_of_books r)) → HoldsSupply r
held_after b r flows h same m = record {
  balanced = moves_keep_supply flows (pots_of (ledger_of_books b)) (pots_of (ledger_of_books r)) m ∙ h.balanced ∙ sym same;
  within = subst (λ (n : ℕ). n ≤ SUPPLY_LIMIT) (sym same) h.within;
}

-- laws on a World that read its ledger alone are cited with nothing frozen
abbrev pub nothing_frozen : Books → Snapshot
nothing_frozen b = record {
  epoch = 0;
  entries = [];
  dreps = [];
  mark = [];
  pool_accounts = [];
  hot = [];
  proposals = [];
  start = b.state;
}

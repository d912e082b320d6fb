-- How flows move the pots.
-- (The preservation of value of the formal specification, in our own words)
use Rattle.std.specs.Prelude.{◌≡◌, ℕ, ◌+◌, List}
use Rattle.tx_records.specs.declared.report.Pots.{Pots}
use Rattle.ledger_model.specs.Flows.{Pot, outputs, deposits, rewards, fees, donations, treasury, reserves, hand, Flow, source, sink, sum_at}

-- what a pot holds; nothing stays in hand
abbrev pub held_in : Pot → Pots → ℕ
held_in outputs p = p.outputs
held_in deposits p = p.deposits
held_in rewards p = p.rewards
held_in fees p = p.fees
held_in donations p = p.donations
held_in treasury p = p.treasury
held_in reserves p = p.reserves
held_in hand p = 0

-- each pot is what it was, with the flows into it and without those out of it
abbrev pub IsMovedBy : List Flow → Pots → Pots → Type 0
IsMovedBy flows old new = (p : Pot) → held_in p new + sum_at source p flows ≡ held_in p old + sum_at sink p flows

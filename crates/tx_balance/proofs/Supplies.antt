-- Pots that are moved by flows, none of which stays in hand, hold as much as before.
use Rattle.std.proofs.Common.{◌≡◌, ℕ, ◌+◌, List, [], ◌∷◌, cond, sum_by, refl, arith}
use Rattle.std.proofs.lemmas.List.Sums.{sum_by-cons}
use Rattle.ledger_model.specs.Flows.{Pot, outputs, deposits, rewards, fees, donations, treasury, reserves, hand, Flow, same_pot, End, source, sink, sum_at}
use Rattle.tx_balance.specs.Laws.{MovesKeepSupply}
use Rattle.ledger_model.proofs.FlowSums.{is_end, sum-cons}

abbrev amount : Flow → ℕ
amount f = f.amount

one_pot : (q : Pot) (n : ℕ) → cond (same_pot q outputs) n 0 + cond (same_pot q deposits) n 0 + cond (same_pot q rewards) n 0 + cond (same_pot q fees) n 0
    + cond (same_pot q donations) n 0 + cond (same_pot q treasury) n 0 + cond (same_pot q reserves) n 0 + cond (same_pot q hand) n 0 ≡ n
one_pot outputs n = omega arith
one_pot deposits n = omega arith
one_pot rewards n = omega arith
one_pot fees n = omega arith
one_pot donations n = omega arith
one_pot treasury n = omega arith
one_pot reserves n = omega arith
one_pot hand n = omega arith

at_one_end : (end : End) (a b : Pot) (n : ℕ) → cond (is_end end outputs a b) n 0 + cond (is_end end deposits a b) n 0 + cond (is_end end rewards a b) n 0
    + cond (is_end end fees a b) n 0 + cond (is_end end donations a b) n 0 + cond (is_end end treasury a b) n 0 + cond (is_end end reserves a b) n 0
    + cond (is_end end hand a b) n 0 ≡ n
at_one_end source a b n = one_pot a n
at_one_end sink a b n = one_pot b n

-- each flow has one pot at this end
all_sums : (end : End) (fs : List Flow) → sum_at end outputs fs + sum_at end deposits fs + sum_at end rewards fs + sum_at end fees fs
    + sum_at end donations fs + sum_at end treasury fs + sum_at end reserves fs + sum_at end hand fs ≡ sum_by amount fs
all_sums end [] = refl
all_sums end (f ∷ fs) = omega (
  arith,
  sum-cons end outputs f fs,
  sum-cons end deposits f fs,
  sum-cons end rewards f fs,
  sum-cons end fees f fs,
  sum-cons end donations f fs,
  sum-cons end treasury f fs,
  sum-cons end reserves f fs,
  sum-cons end hand f fs,
  at_one_end end f.from f.to f.amount,
  all_sums end fs,
  sum_by-cons amount f fs,
)

pub moves_keep_supply : MovesKeepSupply
moves_keep_supply fs old new m =
    omega (arith, all_sums source fs, all_sums sink fs, m outputs, m deposits, m rewards, m fees, m donations, m treasury, m reserves, m hand)

-- What flows into and out of a pot, list after list, and pots that are moved by lists of flows.
use Rattle.std.proofs.Common.{◌≡◌, ℕ, zero, ◌+◌, List, [], ◌∷◌, ◌++◌, Bool, true, false, cond, map, filter, sum_by, refl, ap, sym, ◌∙◌, arith}
use Rattle.std.proofs.lemmas.List.Elements.{filter-append}
use Rattle.std.proofs.lemmas.List.Sums.{sum_by-append, sum_by-cons}
use Rattle.tx_records.specs.declared.report.Pots.{Pots}
use Rattle.ledger_model.specs.Moves.{IsMovedBy}
use Rattle.ledger_model.specs.Flows.{Pot, Flow, End, source, sink, flow, pot_at, same_pot, sum_at}

abbrev amount : Flow → ℕ
amount f = f.amount

-- p is this end of a flow from a to b
abbrev pub is_end : End → Pot → Pot → Pot → Bool
is_end source p a b = same_pot a p
is_end sink p a b = same_pot b p

by_first : (b : Bool) (f : Flow) (fs : List Flow) → sum_by amount (cond b (f ∷ fs) fs) ≡ cond b f.amount 0 + sum_by amount fs
by_first true f fs = sum_by-cons amount f fs
by_first false f fs = omega arith

pub sum-cons : (end : End) (p : Pot) (f : Flow) (fs : List Flow) → sum_at end p (f ∷ fs) ≡ cond (is_end end p f.from f.to) f.amount 0 + sum_at end p fs
sum-cons source p f fs = by_first (same_pot f.from p) f (filter (λ (g : Flow). same_pot g.from p) fs)
sum-cons sink p f fs = by_first (same_pot f.to p) f (filter (λ (g : Flow). same_pot g.to p) fs)

pub sum-append : (end : End) (p : Pot) (fs gs : List Flow) → sum_at end p (fs ++ gs) ≡ sum_at end p fs + sum_at end p gs
sum-append end p fs gs =
    ap (λ (list : List Flow). sum_by amount list) (filter-append (λ f. same_pot (pot_at end f) p) fs gs)
    ∙ sum_by-append amount (filter (λ f. same_pot (pot_at end f) p) fs) (filter (λ f. same_pot (pot_at end f) p) gs)

zero_either : (c : Bool) → cond c zero zero ≡ zero
zero_either true = refl
zero_either false = refl

pub sum_either : (b : Bool) (x y : ℕ) → cond b x 0 + cond b y 0 ≡ cond b (x + y) 0
sum_either true x y = refl
sum_either false x y = omega arith

-- flows that all go from one pot to one pot
pub sum-map : {X : Type 0} (end : End) (p a b : Pot) (f : X → ℕ) (xs : List X) → sum_at end p (map (λ x. flow a b (f x)) xs) ≡ cond (is_end end p a b) (sum_by f xs) 0
sum-map end p a b f [] = sym (zero_either (is_end end p a b))
sum-map end p a b f (x ∷ xs) =
    omega (
      arith,
      sum-cons end p (flow a b (f x)) (map (λ x. flow a b (f x)) xs),
      sum-map end p a b f xs,
      sum_either (is_end end p a b) (f x) (sum_by f xs),
      ap (λ n. cond (is_end end p a b) n 0) (sum_by-cons f x xs),
    )

pub moved-append : (fs gs : List Flow) (a b c : Pots) → IsMovedBy fs a b → IsMovedBy gs b c → IsMovedBy (fs ++ gs) a c
moved-append fs gs a b c h k = λ p. omega (arith, h p, k p, sum-append source p fs gs, sum-append sink p fs gs)

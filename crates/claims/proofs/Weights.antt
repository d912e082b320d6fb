-- The lines of a part and of others.
use Rattle.std.proofs.Common.{◌≡◌, List, [], ◌∷◌, ◌++◌, true, false, cond, map, nat_lt, refl}
use Rattle.certificate_model.specs.Parts.{Part, part_words, weighty}
use Rattle.claims.specs.Lines.{lines_of_part}
use Rattle.gov_actions.specs.declared.action.Proposal.{Proposal}

-- the lines of a part and of others
pub part_first : (a : Proposal) (p : Part) (ps : List Part) → lines_of_part a p ++ map (part_words a) (weighty ps) ≡ map (part_words a) (weighty (p ∷ ps))
part_first a p ps = elim (nat_lt 0 p.weight) as (λ b. map (part_words a) (cond b (p ∷ []) []) ++ map (part_words a) (weighty ps) ≡ map (part_words a) (cond b (p ∷ weighty ps) (weighty ps))) [ true ↦ refl | false ↦ refl ]

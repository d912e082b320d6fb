-- The broken rules of lists of checks, one after the other.
use Rattle.std.proofs.Common.{◌≡◌, List, [], ◌∷◌, ◌++◌, Bool, true, false, cond, map, filter, refl, sym, ap, ◌∙◌, append_assoc}
use Rattle.tx_records.specs.declared.reply.Rule.{Rule}
use Rattle.ledger_model.specs.Checks.{Check, broken_among, is_broken, rule_of}
use Rattle.rule_checks.specs.Told.{told_with}

step : (c : Check) (cs ds : List Check) (b : Bool) → broken_among (cs ++ ds) ≡ broken_among cs ++ broken_among ds
    → map rule_of (cond b (c ∷ filter is_broken (cs ++ ds)) (filter is_broken (cs ++ ds))) ≡ map rule_of (cond b (c ∷ filter is_broken cs) (filter is_broken cs)) ++ broken_among ds
step c cs ds true h = ap (λ (l : List Rule). rule_of c ∷ l) h
step c cs ds false h = h

-- the broken ones of two lists
pub broken_among-append : (cs ds : List Check) → broken_among (cs ++ ds) ≡ broken_among cs ++ broken_among ds
broken_among-append [] ds = refl
broken_among-append (c ∷ cs) ds = step c cs ds c.broken (broken_among-append cs ds)

-- two lists of checks, one after the other
pub told_both : (cs ds : List Check) (told : List Rule) → told_with ds (told_with cs told) ≡ told_with (cs ++ ds) told
told_both cs ds told = append_assoc told (broken_among cs) (broken_among ds) ∙ ap (λ (l : List Rule). told ++ l) (sym (broken_among-append cs ds))

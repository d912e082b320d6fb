use Rattle.std.proofs.Common.{◌≡◌, ◌++◌, flat_map, drop}
use Rattle.text_model.specs.Words.{spaced}
use Rattle.report.specs.Amounts.{amount_words}
use Rattle.report.proofs.words.push_amounts.Given as goal

-- what is added so far, and the amounts that are left, are all of them
abbrev pub invariant-loop-name : goal.invariant-loop-name
invariant-loop-name l =
    l.line.items ++ spaced (flat_map (λ a. amount_words a.0.now a.1) (drop l.name-index l.amounts))
    ≡ l.fn.line.items ++ spaced (flat_map (λ a. amount_words a.0.now a.1) l.amounts)

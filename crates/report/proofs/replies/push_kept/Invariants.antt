use Rattle.std.proofs.Common.{◌≡◌, ◌++◌, flat_map, map, zip}
use Rattle.text_model.specs.Words.{spaced}
use Rattle.report.specs.Amounts.{amount_words}
use Rattle.report.proofs.replies.push_kept.Given as goal

-- what is added so far, and the numbers that are left, are all of them
abbrev pub invariant-loop-word : goal.invariant-loop-word
invariant-loop-word l =
    l.line.items ++ spaced (flat_map (λ k. amount_words k.0 k.1) (zip (map (λ w. w.now) l.word-iterator.a.rest.now) l.word-iterator.b.rest.now))
    ≡ l.fn.line.items ++ spaced (flat_map (λ k. amount_words k.0 k.1) (zip (map (λ w. w.now) l.words) l.numbers))

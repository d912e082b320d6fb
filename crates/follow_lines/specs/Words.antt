-- The words of the lines of rollbacks, by the numbers in them. (Own)
use Rattle.std.specs.Prelude.{ℕ, List, [], ◌∷◌, codes, decimal}
use Rattle.follow_model.specs.FollowLines.{unknown_words}
use Rattle.follow_records.specs.declared.rules.TheConstants.{ROLLBACK_UNKNOWN}
use Rattle.text_model.specs.Words.{Text}
use Rattle.tx_records.specs.Rules.{rule_keeping}

-- an accepted rollback: its slot and epoch, and how many of the frozen entries are counted
abbrev pub words_of_rolled : ℕ → ℕ → ℕ → ℕ → List Text
words_of_rolled slot epoch counted entries =
    codes "rolled" ∷ codes "slot" ∷ decimal slot ∷ codes "epoch" ∷ decimal epoch ∷
    codes "counted" ∷ decimal counted ∷ codes "of" ∷ decimal entries ∷
    []

-- a refused rollback, over the last slot
abbrev pub words_of_unknown : ℕ → List Text
words_of_unknown last = unknown_words (rule_keeping ROLLBACK_UNKNOWN last)

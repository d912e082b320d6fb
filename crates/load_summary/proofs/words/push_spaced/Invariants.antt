use Rattle.std.proofs.Common.{◌≡◌, ◌++◌, map, drop}
use Rattle.text_model.specs.Words.{spaced}
use Rattle.load_summary.specs.Words.{word_text}
use Rattle.load_summary.proofs.words.push_spaced.Given as goal

-- what is added so far, and the words that are left, are all of them
abbrev pub invariant-loop-word : goal.invariant-loop-word
invariant-loop-word l = l.line.items ++ spaced (map word_text (drop l.word-index l.words)) ≡ l.fn.line.items ++ spaced (map word_text l.words)

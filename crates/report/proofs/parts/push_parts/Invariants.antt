use Rattle.std.proofs.Common.{◌≡◌, ◌++◌, map, drop}
use Rattle.text_model.specs.Words.{spaced}
use Rattle.report.specs.WordTexts.{word_text}
use Rattle.report.proofs.parts.push_parts.Given as goal

-- what is added so far, and the words that are left, are all of them
abbrev pub invariant-loop-word : goal.invariant-loop-word
invariant-loop-word l = l.out.items ++ spaced (map word_text (drop l.word-index l.words)) ≡ l.fn.out.items ++ spaced (map word_text l.words)

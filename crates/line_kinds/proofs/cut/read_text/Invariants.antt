-- The words that were cut off, and those of the rest, are all words.
use Rattle.std.proofs.Common.{◌≡◌, ◌++◌, length, map, take}
use denote.Text.{Utf8}
use denote.Shadow.{shadow}
use Rattle.line_kinds.specs.Cuts.{cut}
use Rattle.line_kinds.proofs.cut.read_text.Given as goal

abbrev pub invariant-loop-place : goal.invariant-loop-place
invariant-loop-place g l =
    shadow (Utf8 l.rest) × (length l.words ≡ 20) × (map (λ w. w.now) (take l.place l.words) ++ cut l.rest ≡ cut l.fn.text)

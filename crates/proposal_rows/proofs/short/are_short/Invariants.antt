use Rattle.std.proofs.Common.{◌≡◌, drop, map}
use Rattle.text_forms.specs.Lines.{are_short_lines}
use Rattle.text_forms.specs.Snapshots.{action_words}
use Rattle.proposal_rows.proofs.short.are_short.Given as goal

-- the lines that are left decide
abbrev pub invariant-loop-proposal : goal.invariant-loop-proposal
invariant-loop-proposal l = are_short_lines (map action_words (drop l.proposal-index l.proposals)) ≡ are_short_lines (map action_words l.proposals)

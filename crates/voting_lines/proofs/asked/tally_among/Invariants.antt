use Rattle.std.proofs.Common.{◌≡◌, drop, find}
use Rattle.gov_actions.specs.declared.tally.Tally.{Tally}
use Rattle.gov_ids.specs.Same.{same_action}
use Rattle.voting_lines.proofs.asked.tally_among.Given as goal

-- what is found among those that are left is what is found among all
abbrev pub invariant-loop-tally : goal.invariant-loop-tally
invariant-loop-tally l =
    find (λ (t : Tally). same_action t.id l.id) (drop l.tally-index l.tallies)
    ≡ find (λ (t : Tally). same_action t.id l.id) l.tallies

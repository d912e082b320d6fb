-- What the voting program tells of a ledger and of a run. (Own)
use Rattle.std.specs.Prelude.{ℕ, List, [], ◌++◌, find, flat_map, map, option_to_list}
use Rattle.gov_actions.specs.declared.action.Proposal.{Proposal}
use Rattle.gov_actions.specs.declared.tally.Tally.{Tally}
use Rattle.gov_ids.specs.declared.ActionId.{ActionId}
use Rattle.gov_ids.specs.Same.{same_action}
use Rattle.gov_model.specs.Ratified.{ratified_of, tallies_of}
use Rattle.held_ledger.specs.of_replay_loop.Plays.{Telling, nothing_ahead}
use Rattle.run_model.specs.World.{World}
use Rattle.text_model.specs.EpochLines.{tally_words}
use Rattle.text_model.specs.Runs.{text_of_lines}
use Rattle.text_model.specs.StateLines.{proposal_lines}
use Rattle.text_model.specs.Words.{Text}

-- the line of a proposal's tally, none where it was not frozen
abbrev pub tally_lines : List Tally → ActionId → List (List Text)
tally_lines tallies id = map tally_words (option_to_list (find (λ (t : Tally). same_action t.id id) tallies))

-- the lines of a proposal and its votes, as a print of a state has them, and then that of its tally
abbrev pub told_lines : List Tally → Proposal → List (List Text)
told_lines tallies p = proposal_lines p ++ tally_lines tallies p.id

-- those of live proposals
abbrev pub lines_by : List Tally → List Proposal → List (List Text)
lines_by tallies proposals = flat_map (told_lines tallies) proposals

-- those of a ledger, by what the count of its frozen snapshot comes to
abbrev pub voting_lines : World → List (List Text)
voting_lines w = lines_by (tallies_of w.frozen (ratified_of w.frozen)) w.ledger.proposals

-- nothing of a record, at the end the lines of the last ledger: their number is that of the line
-- of the last record
abbrev pub votes_told : Telling ℕ
votes_told = record { aheads = nothing_ahead; keeps = λ k n w o. n; tells = λ k n w o. []; closes = λ k w n. text_of_lines k (voting_lines w) }

-- What the words of the line of the pots read as, and the line of what is pending. (Own)
use Rattle.std.specs.Prelude.{ℕ, Bool, ◌&&◌, List, Option, Some, None, codes}
use Rattle.gov_ids.specs.Spelling.{◌>>=◌}
use Rattle.text_model.specs.Replies.{pots_words}
use Rattle.text_model.specs.StateLines.{none_pending_words}
use Rattle.text_model.specs.Words.{Text}
use Rattle.tx_records.specs.declared.report.Pots.{Pots}
use Rattle.tx_records.specs.Limits.{is_u64}
use Rattle.line_kinds.specs.Cuts.{word_at}
use Rattle.line_kinds.specs.Numbers.{number_of}
use Rattle.state_kinds.specs.States.{pending_line}

-- the pots; their sum is not read
abbrev pub pots_in : List Text → Option Pots
pots_in ws = do
  outputs ← number_of (word_at 2 ws)
  deposits ← number_of (word_at 4 ws)
  rewards ← number_of (word_at 6 ws)
  fees ← number_of (word_at 8 ws)
  donations ← number_of (word_at 10 ws)
  treasury ← number_of (word_at 12 ws)
  reserves ← number_of (word_at 14 ws)
  Some (record { outputs = outputs; deposits = deposits; rewards = rewards; fees = fees; donations = donations; treasury = treasury; reserves = reserves })

-- their words, with the sum
abbrev pub pots_line : Pots → List Text
pots_line p = pots_words (codes "pots") p

-- their form
abbrev pub are_pots : Pots → Bool
are_pots p =
    is_u64 p.outputs && is_u64 p.deposits && is_u64 p.rewards && is_u64 p.fees && is_u64 p.donations && is_u64 p.treasury && is_u64 p.reserves

-- the words of a pending update without its rewards, or that none is pending
abbrev pub pending_or_none : Option (ℕ × ℕ × ℕ) → List Text
pending_or_none None = none_pending_words
pending_or_none (Some p) = pending_line p

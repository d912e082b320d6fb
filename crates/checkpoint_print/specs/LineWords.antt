-- The words of a line of a checkpoint. (Own)
use Rattle.std.specs.Prelude.{ℕ, List, [], ◌∷◌, codes, decimal}
use Rattle.gov_ids.specs.declared.ActionId.{ActionId}
use Rattle.gov_ids.specs.Spelling.{account_text, action_id_text, pool_text}
use Rattle.checkpoint_model.specs.Checkpoint.{used_words}
use Rattle.checkpoint_print.specs.declared.line.CheckpointLine.{CheckpointLine}
use Rattle.checkpoint_print.specs.declared.line.CheckpointLine.TheVariants.{First, Used, Action, Treasury, Drep, Pool, Proposal, State, End}
use Rattle.snapshots.specs.declared.frozen.FrozenPool.{FrozenPool}
use Rattle.state_lines.specs.StateTexts.{state_words}
use Rattle.text_forms.specs.Snapshots.{action_words, expiry_words}
use Rattle.text_model.specs.Words.{Text, or_none}

-- the first line: number of the last line read, network, slots of an epoch, and count
abbrev pub first_words : ℕ → ℕ → ℕ → ℕ → List Text
first_words line network length counted =
    codes "checkpoint" ∷ codes "1" ∷ codes "line" ∷ decimal line ∷ codes "network" ∷ decimal network ∷
    codes "length" ∷ decimal length ∷ codes "counted" ∷ decimal counted ∷
    []

-- a pool of mark with its reward account at the freeze
abbrev pub pool_words : FrozenPool → List Text
pool_words p = codes "pool" ∷ pool_text p.pool ∷ codes "account" ∷ or_none account_text p.account ∷ []

-- the frozen treasury
abbrev pub treasury_words : ℕ → List Text
treasury_words treasury = codes "treasury" ∷ decimal treasury ∷ []

-- a frozen proposal, except its votes
abbrev pub proposal_words : ActionId → List Text
proposal_words id = codes "proposal" ∷ action_id_text id ∷ []

-- of a line
abbrev pub line_words : CheckpointLine → List Text
line_words (First line network length counted) = first_words line network length counted
line_words (Used id) = used_words id
line_words (Action proposal) = action_words proposal.now
line_words (Treasury treasury) = treasury_words treasury
line_words (Drep drep) = expiry_words drep.now
line_words (Pool pool) = pool_words pool.now
line_words (Proposal id) = proposal_words id
line_words (State line) = state_words line
line_words End = codes "end" ∷ []

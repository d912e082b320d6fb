-- The text of a World and a line: state, used ids, live actions and frozen parts. (Own)
use Rattle.std.specs.Prelude.{ℕ, List, [], ◌∷◌, ◌++◌, codes, decimal, flat_map, map}
use Rattle.gov_ids.specs.declared.TxId.{TxId}
use Rattle.gov_ids.specs.Spelling.{action_id_text, hash_text}
use Rattle.gov_actions.specs.declared.action.Proposal.{Proposal}
use Rattle.text_forms.specs.of_gov_model.Snapshot.{Snapshot}
use Rattle.text_forms.specs.of_run_model.World.{World}
use Rattle.text_forms.specs.Lines.{text_of_bare}
use Rattle.text_forms.specs.Snapshots.{action_words, expiry_words, pool_account_words}
use Rattle.text_forms.specs.of_text_model.StateLines.{account_words, hot_words, state_lines, vote_words}
use Rattle.text_forms.specs.of_text_model.Words.{Text}

-- the first line: version of the text, number of the last line read, constants, and the count
abbrev pub checkpoint_words : World → ℕ → List Text
checkpoint_words w line =
    codes "checkpoint" ∷ codes "1" ∷ codes "line" ∷ decimal line ∷ codes "network" ∷ decimal w.ledger.network ∷
    codes "length" ∷ decimal w.ledger.epoch_length ∷ codes "counted" ∷ decimal w.counted ∷
    []

-- a used id
abbrev pub used_words : TxId → List Text
used_words t = codes "used" ∷ hash_text t.0 ∷ []

-- a line of a frozen part
abbrev pub frozen : List Text → List Text
frozen words = codes "frozen" ∷ words

-- a frozen proposal with its votes; the rest of it is as in the live one
abbrev pub frozen_proposal_lines : Proposal → List (List Text)
frozen_proposal_lines p = (codes "proposal" ∷ action_id_text p.id ∷ []) ∷ map (vote_words p) p.votes

-- the frozen parts, except what the live state shows
abbrev pub frozen_lines : Snapshot → List (List Text)
frozen_lines f = map frozen (
    (codes "treasury" ∷ decimal f.start.treasury ∷ []) ∷ []
    ++ map account_words f.entries
    ++ map expiry_words f.dreps
    ++ map hot_words f.hot
    ++ map (pool_account_words f) f.mark
    ++ flat_map frozen_proposal_lines f.proposals)

-- the lines of the checkpoint of a World after a line
abbrev pub checkpoint_lines : World → ℕ → List (List Text)
checkpoint_lines w line =
    checkpoint_words w line ∷ []
    ++ state_lines w
    ++ map used_words w.ledger.used
    ++ map action_words w.ledger.proposals
    ++ frozen_lines w.frozen
    ++ (codes "end" ∷ []) ∷ []

-- its text
abbrev pub checkpoint_text : World → ℕ → Text
checkpoint_text w line = text_of_bare (checkpoint_lines w line)

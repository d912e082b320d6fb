-- The frozen parts of a checkpoint without the word `frozen`. (Own)
use Rattle.std.specs.Prelude.{List, [], ◌∷◌, ◌++◌, flat_map, map}
use Rattle.checkpoint_model.specs.Checkpoint.{frozen_proposal_lines}
use Rattle.checkpoint_print.specs.LineWords.{treasury_words}
use Rattle.gov_model.specs.Snapshot.{Snapshot}
use Rattle.text_forms.specs.Snapshots.{expiry_words, pool_account_words}
use Rattle.text_model.specs.StateLines.{account_words, hot_words}
use Rattle.text_model.specs.Words.{Text}

-- the frozen parts, except what the live state shows
abbrev pub frozen_parts : Snapshot → List (List Text)
frozen_parts f =
    treasury_words f.start.treasury ∷ []
    ++ map account_words f.entries
    ++ map expiry_words f.dreps
    ++ map hot_words f.hot
    ++ map (pool_account_words f) f.mark
    ++ flat_map frozen_proposal_lines f.proposals

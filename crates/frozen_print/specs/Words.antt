-- The lines of what is frozen, by the parts that a program holds. (Own)
use Rattle.std.specs.Prelude.{ℕ, List, [], ◌∷◌, ◌++◌, Option, codes, decimal, flat_map, map}
use Rattle.gov_ids.specs.declared.Account.{Account}
use Rattle.gov_ids.specs.declared.Credential.{Credential}
use Rattle.gov_ids.specs.declared.PoolId.{PoolId}
use Rattle.gov_ids.specs.Spelling.{account_text, pool_text}
use Rattle.book_records.specs.declared.Entry.{Entry}
use Rattle.certificate_model.specs.Certificate.{mark_words, whole_proposal_lines}
use Rattle.snapshots.specs.declared.frozen.Frozen.{Frozen}
use Rattle.snapshots.specs.declared.frozen.FrozenPool.{FrozenPool}
use Rattle.text_forms.specs.Snapshots.{expiry_words}
use Rattle.text_model.specs.ParamLines.{param_lines}
use Rattle.text_model.specs.StateLines.{account_words, committee_lines, words_of_constitution, words_of_enacted}
use Rattle.text_model.specs.Words.{Text, or_none, version_text}

-- the epoch that ends, with a version and a treasury
abbrev pub words_of_epoch : ℕ → ℕ × ℕ → ℕ → List Text
words_of_epoch epoch version treasury =
    codes "certificate" ∷ codes "epoch" ∷ decimal epoch ∷ codes "version" ∷ version_text version ∷
    codes "treasury" ∷ decimal treasury ∷
    []

-- the reward account of a pool, or none
abbrev pub account_text_of : Option Account → Text
account_text_of account = or_none account_text account

-- a frozen pool with its reward account
abbrev pub pool_words : FrozenPool → List Text
pool_words p = codes "pool" ∷ pool_text p.pool ∷ codes "account" ∷ account_text_of p.account ∷ []

-- the epoch, and how it is governed
abbrev pub governance_lines : Frozen → List (List Text)
governance_lines f =
    words_of_epoch f.epoch f.start.version f.start.treasury ∷ words_of_constitution f.start.document f.start.script ∷ []
    ++ committee_lines f.start.committee f.hot
    ++ words_of_enacted f.start.last ∷ []

-- the DReps, the pools of mark with their stakes, and the account entries
abbrev pub voter_lines : Frozen → List (PoolId × ℕ) → List (Credential × Entry) → List (List Text)
voter_lines f mark entries =
    map expiry_words f.dreps ++ (map pool_words f.pools ++ map mark_words mark) ++ map account_words entries

-- all of it
abbrev pub frozen_lines : Frozen → List (PoolId × ℕ) → List (Credential × Entry) → List (List Text)
frozen_lines f mark entries =
    governance_lines f ++ param_lines f.start.params
    ++ (voter_lines f mark entries ++ flat_map whole_proposal_lines f.proposals)

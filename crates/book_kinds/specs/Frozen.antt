-- What the words of lines of frozen parts read as, after the word frozen. (Own)
use Rattle.std.specs.Prelude.{ℕ, Bool, ◌&&◌, List, [], ◌∷◌, Option, Some, codes}
use Rattle.maps.specs.Words.{none_or}
use Rattle.gov_ids.specs.declared.Account.{Account}
use Rattle.gov_ids.specs.declared.ActionId.{ActionId}
use Rattle.gov_ids.specs.declared.Credential.{Credential}
use Rattle.gov_ids.specs.declared.PoolId.{PoolId}
use Rattle.gov_ids.specs.Spelling.{◌>>=◌, account_of, account_text, action_id_of, action_id_text, credential_of, pool_of, pool_text}
use Rattle.text_forms.specs.Ids.{is_account_id, is_pool_id}
use Rattle.text_model.specs.Words.{Text, or_none}
use Rattle.line_kinds.specs.Cuts.{word_at}
use Rattle.line_kinds.specs.Numbers.{number_of}
use Rattle.book_kinds.specs.Words.{or_none_of}

-- a frozen DRep with its expiry
abbrev pub expiry_in : List Text → Option (Credential × ℕ)
expiry_in ws = do
  credential ← credential_of (word_at 1 ws)
  expiry ← number_of (word_at 3 ws)
  Some (credential, expiry)

-- the reward account of a pool, if it has one
abbrev pub pool_account_in : List Text → Option (PoolId × Option Account)
pool_account_in ws = do
  pool ← pool_of (word_at 1 ws)
  account ← or_none_of account_of (word_at 3 ws)
  Some (pool, account)

-- its words
abbrev pub pool_account_line : PoolId × Option Account → List Text
pool_account_line p = codes "pool" ∷ pool_text p.0 ∷ codes "account" ∷ or_none account_text p.1 ∷ []

-- its form
abbrev pub is_pool_account_line : PoolId × Option Account → Bool
is_pool_account_line p = is_pool_id p.0 && none_or is_account_id p.1

-- the id of a frozen proposal
abbrev pub proposal_id_in : List Text → Option ActionId
proposal_id_in ws = action_id_of (word_at 1 ws)

-- its words
abbrev pub proposal_id_line : ActionId → List Text
proposal_id_line id = codes "proposal" ∷ action_id_text id ∷ []

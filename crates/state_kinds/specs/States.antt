-- What the words of lines of a state read as. (Own)
use Rattle.std.specs.Prelude.{ℕ, Bool, ◌&&◌, if◌then◌else◌, List, [], ◌∷◌, Option, Some, None, bytes_eq, codes, decimal, nat_lt, option_map}
use Rattle.std.specs.Result.{result_ok}
use Rattle.maps.specs.Words.{none_or}
use Rattle.coin_frac.specs.Fraction.{Fraction}
use Rattle.gov_ids.specs.declared.Credential.{Credential}
use Rattle.gov_ids.specs.Spelling.{◌>>=◌, action_id_of, credential_of, hash_of}
use Rattle.gov_actions.specs.declared.state.HotState.{HotState}
use Rattle.gov_actions.specs.declared.state.LastIds.{LastIds}
use Rattle.text_forms.specs.Actions.{is_member}
use Rattle.text_forms.specs.Books.{is_hot_state}
use Rattle.text_forms.specs.Ids.{is_hash}
use Rattle.text_model.specs.StateLines.{committee_words, pending_words, words_of_constitution, words_of_member}
use Rattle.text_model.specs.Words.{Text}
use Rattle.tx_records.specs.declared.limits.TheConstants.{SLOT_LIMIT}
use Rattle.tx_records.specs.Limits.{is_u64}
use Rattle.line_kinds.specs.Cuts.{word_at}
use Rattle.line_kinds.specs.Numbers.{number_of}
use Rattle.book_kinds.specs.Pools.{unit_of}
use Rattle.book_kinds.specs.Words.{hot_state_of, or_none_of}

-- ---- amounts

-- the fee pot at the last boundary
abbrev pub noted_fees_in : List Text → Option ℕ
noted_fees_in ws = number_of (word_at 2 ws)

-- the treasury
abbrev pub treasury_in : List Text → Option ℕ
treasury_in ws = number_of (word_at 1 ws)

-- its words
abbrev pub treasury_line : ℕ → List Text
treasury_line n = codes "treasury" ∷ decimal n ∷ []

-- a pending update without its rewards: from reserves, from fees, to the treasury
abbrev pub pending_in : List Text → Option (ℕ × ℕ × ℕ)
pending_in ws = do
  reserves ← number_of (word_at 2 ws)
  fees ← number_of (word_at 4 ws)
  treasury ← number_of (word_at 6 ws)
  Some (reserves, fees, treasury)

-- its words
abbrev pub pending_line : ℕ × ℕ × ℕ → List Text
pending_line p = pending_words (record { epoch = 0; from_reserves = p.0; from_fees = p.1; to_treasury = p.2; rewards = [] })

-- its form
abbrev pub is_pending_line : ℕ × ℕ × ℕ → Bool
is_pending_line p = is_u64 p.0 && is_u64 p.1 && is_u64 p.2

-- ---- governance

-- the term of a member
abbrev pub term_of : Text → Option ℕ
term_of t = do
  n ← number_of t
  if nat_lt n SLOT_LIMIT then Some n else None

-- what a cold key authorized, if anything
abbrev pub hot_or_none_of : Text → Option (Option HotState)
hot_or_none_of = or_none_of hot_state_of

-- a member, and what its cold key authorized
abbrev pub member_in : List Text → Option ((Credential × ℕ) × Option HotState)
member_in ws = do
  cold ← credential_of (word_at 1 ws)
  term ← term_of (word_at 3 ws)
  hot ← hot_or_none_of (word_at 5 ws)
  Some ((cold, term), hot)

-- its words
abbrev pub member_line : (Credential × ℕ) × Option HotState → List Text
member_line m = words_of_member m.0 m.1

-- its form
abbrev pub is_member_line : (Credential × ℕ) × Option HotState → Bool
is_member_line m = is_member m.0 && none_or is_hot_state m.1

-- a script, if there is one
abbrev pub script_of : Text → Option (Option (List ℕ))
script_of = or_none_of (λ t. result_ok (hash_of 28 t))

-- the constitution: document and script
abbrev pub constitution_in : List Text → Option (List ℕ × Option (List ℕ))
constitution_in ws = do
  document ← result_ok (hash_of 32 (word_at 1 ws))
  script ← script_of (word_at 2 ws)
  Some (document, script)

-- its words
abbrev pub constitution_line : List ℕ × Option (List ℕ) → List Text
constitution_line c = words_of_constitution c.0 c.1

-- its form
abbrev pub is_constitution_line : List ℕ × Option (List ℕ) → Bool
is_constitution_line c = is_hash 32 c.0 && none_or (is_hash 28) c.1

-- the threshold of the committee, none if there is no committee
abbrev pub committee_in : List Text → Option (Option Fraction)
committee_in ws = if bytes_eq (word_at 1 ws) (codes "none") then Some None else option_map Some (unit_of (word_at 2 ws))

-- its words
abbrev pub committee_line : Option Fraction → List Text
committee_line o = committee_words (option_map (λ t. record { members = []; threshold = t }) o)

-- the last enacted ids
abbrev pub enacted_in : List Text → Option LastIds
enacted_in ws = do
  committee ← or_none_of action_id_of (word_at 2 ws)
  constitution ← or_none_of action_id_of (word_at 4 ws)
  hardfork ← or_none_of action_id_of (word_at 6 ws)
  parameters ← or_none_of action_id_of (word_at 8 ws)
  Some (record { committee = committee; constitution = constitution; hardfork = hardfork; parameters = parameters })

-- ---- the end

-- the words of the line that ends a text
abbrev pub end_line : List Text
end_line = codes "end" ∷ []

-- What is wrong, in lines: with each record over the World before it, with a genesis, and with the
-- values of a line. (Own)
use Rattle.std.specs.Prelude.{ℕ, List, [], ◌∷◌, ◌++◌, Option, Some, None, codes, decimal, map}
use Rattle.genesis_problems.specs.Problems.{genesis_problems}
use Rattle.genesis_problems.specs.declared.problem.GenesisList.{GenesisList}
use Rattle.genesis_problems.specs.declared.problem.GenesisList.TheVariants.{Members, Outputs, Accounts, Pools, Dreps}
use Rattle.genesis_problems.specs.declared.problem.GenesisProblem.{GenesisProblem}
use Rattle.genesis_problems.specs.declared.problem.GenesisProblem.TheVariants.{SupplyTooLarge, Repeated, UnknownPool, UnknownDrep, WrongNetwork, SumWrong}
use Rattle.record_notes.specs.Lines.{Noted}
use Rattle.record_notes.specs.Notes.{Said}
use Rattle.record_notes.specs.declared.note.What.TheVariants.{Missing, NoJson, OutOfRange, UnknownForm, Unread, WrongKind}
use Rattle.text_forms.specs.of_run_model.of_coin_frac.declared.TheConstants.{SUPPLY_LIMIT}
use Rattle.text_forms.specs.of_run_model.World.{World}
use Rattle.text_forms.specs.of_tx_records.declared.record.Reading.{Reading}
use Rattle.text_forms.specs.of_tx_records.declared.record.Reading.TheVariants.{Read, Malformed, TooLong}
use Rattle.text_forms.specs.of_tx_records.declared.record.Record.TheVariants as records
use Rattle.text_forms.specs.of_tx_records.declared.reply.Reply.TheVariants.{Refused}
use Rattle.text_forms.specs.of_tx_records.declared.reply.Rule.{Rule}
use Rattle.text_forms.specs.of_tx_records.declared.rules.TheConstants.{MALFORMED, TOO_LONG}
use Rattle.text_forms.specs.of_text_model.Replies.{bracketed, reply_words}
use Rattle.text_forms.specs.of_text_model.Runs.{line_rule, text_of_lines, world_after_reading}
use Rattle.text_forms.specs.of_text_model.Words.{Text}
use Rattle.text_forms.specs.Worlds.{world_of_readings}
use Rattle.explain_model.specs.Broken.{broken_by_reading}

-- ---- what there is to say of values

-- a path, as it is written; that of the line's value itself is a dot
abbrev pub path_text : List ℕ → Text
path_text [] = codes "."
path_text (b ∷ path) = b ∷ path

-- a value that is not of its shape: its path, and what is wrong with it
abbrev pub malformed_words : List ℕ → Text → List Text
malformed_words path what = codes "malformed" ∷ path_text path ∷ what ∷ []

-- a name that nobody reads: its path alone
abbrev pub unknown_words : List ℕ → List Text
unknown_words path = codes "unknown" ∷ path_text path ∷ []

-- a line that is no JSON value: how many bytes are the front of one
abbrev pub place_words : List ℕ → ℕ → List Text
place_words path place = codes "malformed" ∷ path_text path ∷ codes "at" ∷ decimal place ∷ []

-- the line of a thing to say
abbrev pub said_words : Said → List Text
said_words (path, Missing) = malformed_words path (codes "missing")
said_words (path, WrongKind) = malformed_words path (codes "wrong-kind")
said_words (path, OutOfRange) = malformed_words path (codes "out-of-range")
said_words (path, UnknownForm) = malformed_words path (codes "unknown-form")
said_words (path, Unread) = unknown_words path
said_words (path, NoJson place) = place_words path place

-- ---- a record over a ledger

-- the line of a broken rule, which is that of a refusal
abbrev pub rule_words : Rule → List Text
rule_words rule = reply_words (Refused rule)

-- a line for each rule that the reading breaks
abbrev pub broken_lines : World → Reading → List (List Text)
broken_lines w r = map rule_words (broken_by_reading w r)

-- behind them a line for each thing to say of its values
abbrev pub explained_lines : World → Noted → List (List Text)
explained_lines w r = broken_lines w r.reading ++ map said_words r.said

-- ---- what was read first

-- the name of a list of a genesis, as a record writes it
abbrev pub list_text : GenesisList → Text
list_text Members = codes "committee.members"
list_text Outputs = codes "outputs"
list_text Accounts = codes "accounts"
list_text Pools = codes "pools"
list_text Dreps = codes "dreps"

-- an entry of a list
abbrev pub entry_text : GenesisList → ℕ → Text
entry_text list i = list_text list ++ bracketed (Some i)

-- the line of a problem of a genesis: the name of the rule, and the place or the numbers
abbrev pub problem_words : GenesisProblem → List Text
problem_words (SupplyTooLarge supply) = codes "genesis" ∷ codes "SupplyTooLarge" ∷ codes "supply" ∷ decimal supply ∷ codes "most" ∷ decimal SUPPLY_LIMIT ∷ []
problem_words (Repeated list i) = codes "genesis" ∷ codes "Repeated" ∷ entry_text list i ∷ []
problem_words (UnknownPool i) = codes "genesis" ∷ codes "UnknownTarget" ∷ entry_text Accounts i ∷ codes "pool" ∷ []
problem_words (UnknownDrep i) = codes "genesis" ∷ codes "UnknownTarget" ∷ entry_text Accounts i ∷ codes "drep" ∷ []
problem_words (WrongNetwork list i) = codes "genesis" ∷ codes "WrongNetwork" ∷ entry_text list i ∷ []
problem_words (SumWrong sum supply) = codes "genesis" ∷ codes "SumWrong" ∷ codes "sum" ∷ decimal sum ∷ codes "supply" ∷ decimal supply ∷ []

-- the line of a record that is no genesis, where one must be
abbrev pub no_genesis_words : List Text
no_genesis_words = codes "genesis" ∷ codes "NoGenesis" ∷ []

-- a line for each problem of what was read first
abbrev pub problem_lines : Reading → List (List Text)
problem_lines (Read (records.Genesis g)) = map problem_words (genesis_problems g)
problem_lines (Read _) = no_genesis_words ∷ []
problem_lines (Malformed field place) = rule_words (line_rule MALFORMED (Some field) place) ∷ []
problem_lines TooLong = rule_words (line_rule TOO_LONG None None) ∷ []

-- behind them a line for each thing to say of its values
abbrev pub first_lines : Noted → List (List Text)
first_lines r = problem_lines r.reading ++ map said_words r.said

-- ---- a whole run

-- the text of further readings
abbrev pub explained_from : World → List (ℕ × Noted) → Text
explained_from w [] = []
explained_from w (r ∷ rs) = text_of_lines r.0 (explained_lines w r.1) ++ explained_from (world_after_reading w r.1.reading) rs

-- the text of readings behind a first one, which left a World if it was a genesis without a problem
abbrev pub explained_behind : Option World → List (ℕ × Noted) → Text
explained_behind None rs = []
explained_behind (Some w) rs = explained_from w rs

-- the text of a run: what is wrong with what was read first, then with each further reading
abbrev pub explained_of_readings : List (ℕ × Noted) → Text
explained_of_readings [] = []
explained_of_readings ((n, r) ∷ rs) = text_of_lines n (first_lines r) ++ explained_behind (world_of_readings ((n, r.reading) ∷ [])) rs

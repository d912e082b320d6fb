-- What the replay of a stream gives: counts of its replies, and of its boundaries' tallies. (Own)
use Rattle.std.specs.Prelude.{ℕ, ◌+◌, Bool, true, false, List, [], ◌∷◌, flat_map, fold, is_none, length, not, ◌&&◌, if◌then◌else◌}
use Rattle.std.specs.List.{count_by}
use Rattle.gov_actions.specs.declared.tally.Tally.{Tally}
use Rattle.gov_actions.specs.declared.tally.Verdict.{Verdict}
use Rattle.gov_actions.specs.declared.tally.Verdict.TheVariants.{Ratified, Expired, Waiting}
use Rattle.tx_records.specs.declared.genesis.Genesis.{Genesis}
use Rattle.tx_records.specs.declared.record.Reading.{Reading}
use Rattle.tx_records.specs.declared.record.Reading.TheVariants.{Read}
use Rattle.tx_records.specs.declared.record.Record.{Record}
use Rattle.tx_records.specs.declared.record.Record.TheVariants as records
use Rattle.text_model.specs.of_ledger_model.Supply.{pots_of}
use Rattle.text_model.specs.of_run_model.Genesis.{world_of_genesis}
use Rattle.text_model.specs.of_run_model.Report.{report_of}
use Rattle.text_model.specs.of_run_model.Step.{enters_next, refusal_of}
use Rattle.text_model.specs.of_run_model.World.{World}
use Rattle.text_model.specs.Runs.{world_after_reading}
use Rattle.load_model.specs.declared.summary.LoadSummary.{LoadSummary}

-- each reading, with the World before it
abbrev pub with_worlds : World → List Reading → List (World × Reading)
with_worlds w [] = []
with_worlds w (r ∷ rs) = (w, r) ∷ with_worlds (world_after_reading w r) rs

-- the World after all readings
abbrev pub world_after_readings : World → List Reading → World
world_after_readings w rs = fold world_after_reading w rs

-- whether a record breaks no rule
abbrev pub breaks_none : World → Record → Bool
breaks_none w r = is_none (refusal_of w r)

-- whether a reading is a transaction or a reward update that is accepted
abbrev pub is_accepted : World × Reading → Bool
is_accepted (w, Read (records.Tx tx)) = breaks_none w (records.Tx tx)
is_accepted (w, Read (records.Rewards u)) = breaks_none w (records.Rewards u)
is_accepted (w, _) = false

-- whether a reading is a block that is accepted
abbrev pub is_accepted_block : World × Reading → Bool
is_accepted_block (w, Read (records.Block slot pulse)) = breaks_none w (records.Block slot pulse)
is_accepted_block (w, _) = false

-- whether a reading is refused, as a line that is no record is, too
abbrev pub is_refused : World × Reading → Bool
is_refused (w, Read r) = not (breaks_none w r)
is_refused (w, _) = true

-- the tallies of the boundary that a reading crosses, if it crosses one
abbrev pub tallies_at : World × Reading → List Tally
tallies_at (w, Read (records.Block slot pulse)) =
    if breaks_none w (records.Block slot pulse) && enters_next w.ledger slot then (report_of w).tallies else []
tallies_at (w, _) = []

-- whether a verdict says that the proposal is ratified
abbrev pub is_ratified_verdict : Verdict → Bool
is_ratified_verdict Ratified = true
is_ratified_verdict _ = false

-- whether a verdict says that it is expired
abbrev pub is_expired_verdict : Verdict → Bool
is_expired_verdict Expired = true
is_expired_verdict _ = false

-- whether a verdict says that it waits
abbrev pub is_waiting_verdict : Verdict → Bool
is_waiting_verdict Waiting = true
is_waiting_verdict _ = false

-- the summary of the replay of a genesis and of the readings after it
abbrev pub summary_of : ℕ → ℕ → ℕ → Genesis → List Reading → LoadSummary
summary_of seed accounts epochs g rs =
    let w : World = world_of_genesis g in
    let answered : List (World × Reading) = with_worlds w rs in
    let tallies : List Tally = flat_map tallies_at answered in
    record {
      seed = seed;
      accounts = accounts;
      epochs = epochs;
      records = length rs + 1;
      accepted = count_by is_accepted answered;
      refused = count_by is_refused answered;
      blocks = count_by is_accepted_block answered;
      ratified = count_by (λ t. is_ratified_verdict t.verdict) tallies;
      expired = count_by (λ t. is_expired_verdict t.verdict) tallies;
      waiting = count_by (λ t. is_waiting_verdict t.verdict) tallies;
      pots = pots_of (world_after_readings w rs).ledger;
    }

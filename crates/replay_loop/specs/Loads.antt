-- What the command `load` writes, and how it may end. (Own)
use Rattle.std.specs.Prelude.{◌≡◌, ℕ, List, ◌∷◌, Option, Some, None, map}
use Rattle.std.specs.Io.KnownBytes.{append_known}
use Rattle.load_model.specs.Json.{joined}
use Rattle.load_model.specs.Stream.{bytes_of_load}
use Rattle.load_model.specs.Summary.{summary_of}
use Rattle.load_model.specs.SummaryText.{summary_lines}
use Rattle.load_model.specs.declared.summary.LoadSummary.{LoadSummary}
use Rattle.load_options.specs.declared.command.LoadCommand.{LoadCommand}
use Rattle.record_stream.specs.Records.{records_of}
use Rattle.run_model.specs.Genesis.{genesis_fault}
use Rattle.text_model.specs.Words.{Text}
use Rattle.tx_records.specs.declared.genesis.Genesis.{Genesis}
use Rattle.tx_records.specs.declared.genesis.GenesisRule.{GenesisRule}
use Rattle.tx_records.specs.declared.record.Reading.{Reading}
use Rattle.tx_records.specs.declared.record.Reading.TheVariants.{Read}
use Rattle.tx_records.specs.declared.record.Record.TheVariants as records
use Rattle.replay_loop.specs.declared.status.Status.{Status}
use Rattle.replay_loop.specs.declared.status.Status.TheVariants as statuses
use Rattle.replay_loop.specs.Endings.{IsFront}

-- the summary of a genesis and of what follows it, by the first genesis rule that is broken
abbrev pub summary_by : LoadCommand → Genesis → Option GenesisRule → List (ℕ × Reading) → Option LoadSummary
summary_by c g (Some rule) rs = None
summary_by c g None rs = Some (summary_of c.seed c.accounts c.epochs g (map (λ (r : ℕ × Reading). r.1) rs))

-- the summary of a run of these records, if they begin with a genesis that breaks no genesis rule
abbrev pub summary_of_readings : LoadCommand → List (ℕ × Reading) → Option LoadSummary
summary_of_readings c ((n, Read (records.Genesis g)) ∷ rs) = summary_by c g (genesis_fault g) rs
summary_of_readings c _ = None

-- the summary of the run of the stream that is made for the command
abbrev pub summary_of_load : LoadCommand → Option LoadSummary
summary_of_load c = summary_of_readings c (records_of (bytes_of_load c.seed c.accounts c.epochs))

-- its text: four lines
abbrev pub summary_text : LoadSummary → Text
summary_text x = joined (summary_lines x)

-- what each status says: of the text of the summary the run wrote `written`
abbrev pub EndsLoad : Status → Text → Text → Type 0
EndsLoad statuses.Done text written = written ≡ text
EndsLoad statuses.WriteFault text written = IsFront written text
EndsLoad statuses.NoMemory text written = IsFront written text
-- `load` never ends so
EndsLoad (statuses.BadGenesis cause) text written = ⊥
EndsLoad statuses.ReadFault text written = ⊥
EndsLoad statuses.TooMuch text written = ⊥
EndsLoad statuses.Usage text written = ⊥
EndsLoad statuses.BadCheckpoint text written = ⊥

-- how a run of `load` ended: the stream has a summary, and the sink took what was written of it
pub record IsLoaded (status : Status) (c : LoadCommand) (had has : Option (List ℕ)) : Type 0 where
  pub summary : LoadSummary
  pub is : summary_of_load c ≡ Some summary
  pub written : Text
  pub wrote : has ≡ append_known had written
  pub ending : EndsLoad status (summary_text summary) written

-- The certificates of a run, and the answers of a checker. (Own)
use Rattle.std.specs.Prelude.{◌≡◌, ℕ, ◌+◌, ◌↔◌, Bool, true, false, List, [], ◌∷◌, ◌++◌, Option, Some, None, bytes_eq, codes, if◌then◌else◌}
use Rattle.std.specs.List.{onto_first}
use Rattle.tx_records.specs.declared.genesis.Genesis.{Genesis}
use Rattle.tx_records.specs.declared.genesis.GenesisRule.{GenesisRule}
use Rattle.tx_records.specs.declared.record.Reading.{Reading}
use Rattle.tx_records.specs.declared.record.Reading.TheVariants.{Read}
use Rattle.tx_records.specs.declared.record.Record.{Record}
use Rattle.tx_records.specs.declared.record.Record.TheVariants as records
use Rattle.tx_records.specs.declared.reply.Rule.{Rule}
use Rattle.gov_model.specs.Snapshot.{Snapshot}
use Rattle.text_model.specs.of_run_model.Genesis.{genesis_fault, world_of_genesis}
use Rattle.text_model.specs.of_run_model.Step.{enters_next, refusal_of}
use Rattle.text_model.specs.of_run_model.World.{World}
use Rattle.text_forms.specs.Lines.{joined_lines}
use Rattle.text_model.specs.Runs.{world_after_reading}
use Rattle.text_model.specs.Words.{Text, line_of}
use Rattle.certificate_model.specs.Certificate.{certificate_lines, certificate_text}
use Rattle.certificate_model.specs.Fits.{Fits}

-- ---- certificates of a run

-- the certificate of the epoch that an accepted block ends, if it ends one
abbrev pub certificate_of_block : World → ℕ → Text
certificate_of_block w slot = if enters_next w.ledger slot then certificate_text w.frozen else []

-- by the first rule that the record breaks
abbrev pub certificate_by : Option Rule → World → Record → Text
certificate_by None w (records.Block slot pulse) = certificate_of_block w slot
certificate_by _ w r = []

-- the certificate of a reading
abbrev pub certificate_of_reading : World → Reading → Text
certificate_of_reading w (Read r) = certificate_by (refusal_of w r) w r
certificate_of_reading w _ = []

-- the certificates of readings
abbrev pub certificates_from : World → List (ℕ × Reading) → Text
certificates_from w [] = []
certificates_from w (r ∷ rs) = certificate_of_reading w r.1 ++ certificates_from (world_after_reading w r.1) rs

-- by the first genesis rule that is broken
abbrev pub certificates_by : Option GenesisRule → Genesis → List (ℕ × Reading) → Option Text
certificates_by (Some rule) g rs = None
certificates_by None g rs = Some (certificates_from (world_of_genesis g) rs)

-- the certificates of a run, one a boundary
-- none, unless the run begins with a genesis that breaks no genesis rule
abbrev pub certificates_of_readings : List (ℕ × Reading) → Option Text
certificates_of_readings ((n, Read (records.Genesis g)) ∷ rs) = certificates_by (genesis_fault g) g rs
certificates_of_readings _ = None

-- ---- the checker

-- the line that ends a certificate
abbrev pub is_end : Text → Bool
is_end line = bytes_eq line (codes "end")

-- lines as certificates, each up to its `end`; a rest is one more
abbrev pub certificates_in : List Text → List (List Text)
certificates_in [] = []
certificates_in (l ∷ ls) = if is_end l then (l ∷ []) ∷ certificates_in ls else onto_first l (certificates_in ls)

-- these lines are the certificate of a snapshot that fits
pub record IsCertificate (lines : List Text) : Type 0 where
  pub snapshot : Snapshot
  pub fits : Fits snapshot
  pub text : lines ≡ joined_lines (certificate_lines snapshot)

-- the answer is yes if and only if the lines are a certificate
abbrev pub Answers : List Text → Bool → Type 0
Answers lines answer = (answer ≡ true) ↔ IsCertificate lines

-- an answer as it is printed
abbrev pub answer_text : Bool → Text
answer_text true = codes "yes"
answer_text false = codes "no"

-- the answers, each with the number of its certificate; the first has the number n
abbrev pub answers_text : ℕ → List Bool → Text
answers_text n [] = []
answers_text n (b ∷ bs) = line_of n (answer_text b ∷ []) ++ answers_text (n + 1) bs

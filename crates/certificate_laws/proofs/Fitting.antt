-- The certificates of a run are of snapshots that fit.
use Rattle.std.proofs.Common.{◌≡◌, ℕ, List, [], ◌∷◌, ◌++◌, Bool, true, false, Option, Some, None, ap, refl, subst}
use Rattle.std.specs.Prelude.{if◌then◌else◌}
use Rattle.std.specs.List.{AllByRecursion}
use Rattle.std.proofs.lemmas.Option.{none-some, same_Some}
use Rattle.byte_lines.specs.Pieces.{pieces_of}
use Rattle.certificate_model.specs.Certificate.{certificate_text}
use Rattle.certificate_model.specs.Checked.{certificate_by, certificate_of_reading, certificates_by, certificates_from, certificates_of_readings}
use Rattle.certificate_model.specs.Fits.{Fits}
use Rattle.record_stream.specs.Records.{records_of}
use Rattle.stream_laws.proofs.Readings.{AreGood, good_lines, read_records}
use Rattle.stream_laws.proofs.Streams.{readings_fit}
use Rattle.text_forms.specs.Worlds.{world_after_readings, world_by}
use Rattle.text_forms.specs.of_gov_model.Snapshot.{Snapshot}
use Rattle.text_forms.specs.of_run_model.Genesis.{genesis_fault, world_of_genesis}
use Rattle.text_forms.specs.of_run_model.Step.{enters_next, refusal_of}
use Rattle.text_forms.specs.of_run_model.World.{World}
use Rattle.text_forms.specs.of_text_model.Runs.{world_after_reading}
use Rattle.text_forms.specs.of_text_model.Words.{Text}
use Rattle.text_forms.specs.of_tx_records.declared.genesis.Genesis.{Genesis}
use Rattle.text_forms.specs.of_tx_records.declared.genesis.GenesisRule.{GenesisRule}
use Rattle.text_forms.specs.of_tx_records.declared.record.Reading.{Reading}
use Rattle.text_forms.specs.of_tx_records.declared.record.Reading.TheVariants.{Read, Malformed, TooLong}
use Rattle.text_forms.specs.of_tx_records.declared.record.Record.{Record}
use Rattle.text_forms.specs.of_tx_records.declared.record.Record.TheVariants as records
use Rattle.text_forms.specs.of_tx_records.declared.reply.Rule.{Rule}
use Rattle.certificate_laws.specs.Laws.{certificates_of_bytes, certificates_text}

-- a text is certificates of snapshots that fit, one by one
pub record AreOf (text : Text) : Type 0 where
  pub snapshots : List Snapshot
  pub fit : AllByRecursion Fits snapshots
  pub are : text ≡ certificates_text snapshots

-- ---- one reading more

by_boundary : (b : Bool) (f : Snapshot) (text : Text) → Fits f → AreOf text → AreOf ((if b then certificate_text f else []) ++ text)
by_boundary true f text fits rest = record { snapshots = f ∷ rest.snapshots; fit = (fits, rest.fit); are = ap (λ (t : Text). certificate_text f ++ t) rest.are }
by_boundary false f text fits rest = rest

by_rule : (o : Option Rule) (w : World) (r : Record) (text : Text) → Fits w.frozen → AreOf text → AreOf (certificate_by o w r ++ text)
by_rule (Some rule) w r text fits rest = rest
by_rule None w (records.Genesis g) text fits rest = rest
by_rule None w (records.Block slot pulse) text fits rest = by_boundary (enters_next w.ledger slot) w.frozen text fits rest
by_rule None w (records.Rewards u) text fits rest = rest
by_rule None w (records.Tx tx) text fits rest = rest
by_rule None w (records.Print what) text fits rest = rest

by_reading : (w : World) (r : Reading) (text : Text) → Fits w.frozen → AreOf text → AreOf (certificate_of_reading w r ++ text)
by_reading w (Read r) text fits rest = by_rule (refusal_of w r) w r text fits rest
by_reading w (Malformed field place) text fits rest = rest
by_reading w TooLong text fits rest = rest

-- ---- all readings

-- what is frozen before each of these readings fits
abbrev FitsBefore : World → List (ℕ × Reading) → Type 0
FitsBefore w rs = (front more : List (ℕ × Reading)) → rs ≡ front ++ more → Fits (world_after_readings w front).frozen

from_readings : (w : World) (rs : List (ℕ × Reading)) → FitsBefore w rs → AreOf (certificates_from w rs)
from_readings w [] h = record { snapshots = []; fit = tt; are = refl }
from_readings w (r ∷ rs) h =
    by_reading w r.1 (certificates_from (world_after_reading w r.1) rs) (h [] (r ∷ rs) refl)
    (from_readings (world_after_reading w r.1) rs (λ front more cut. h (r ∷ front) more (ap (λ (xs : List (ℕ × Reading)). r ∷ xs) cut)))

-- the records of a front of good readings are good
good_front : (front more : List (ℕ × Reading)) → AreGood (read_records (front ++ more)) → AreGood (read_records front)
good_front [] more h = tt
good_front ((n, Read r) ∷ front) more h = (h.0, good_front front more h.1)
good_front ((n, Malformed field place) ∷ front) more h = good_front front more h
good_front ((n, TooLong) ∷ front) more h = good_front front more h

of_genesis : (o : Option GenesisRule) (n : ℕ) (g : Genesis) (rs : List (ℕ × Reading)) (text : Text) → genesis_fault g ≡ o
    → AreGood (read_records ((n, Read (records.Genesis g)) ∷ rs)) → certificates_by o g rs ≡ Some text → AreOf text
of_genesis (Some rule) n g rs text o k e = absurd (none-some text e)
of_genesis None n g rs text o k e =
    let first : ℕ × Reading = (n, Read (records.Genesis g)) in
    let before : FitsBefore (world_of_genesis g) rs =
    λ front more cut.
    let good : AreGood (read_records (first ∷ front)) = good_front (first ∷ front) more (subst (λ (xs : List (ℕ × Reading)). AreGood (read_records (first ∷ xs))) cut k) in
    readings_fit (first ∷ front) (world_after_readings (world_of_genesis g) front) good (ap (λ (x : Option GenesisRule). world_by x g front) o) in
    subst AreOf (same_Some (certificates_from (world_of_genesis g) rs) text e) (from_readings (world_of_genesis g) rs before)

of_readings : (rs : List (ℕ × Reading)) (text : Text) → AreGood (read_records rs) → certificates_of_readings rs ≡ Some text → AreOf text
of_readings [] text k e = absurd (none-some text e)
of_readings ((n, Read (records.Genesis g)) ∷ rs) text k e = of_genesis (genesis_fault g) n g rs text refl k e
of_readings ((n, Read (records.Block slot pulse)) ∷ rs) text k e = absurd (none-some text e)
of_readings ((n, Read (records.Rewards u)) ∷ rs) text k e = absurd (none-some text e)
of_readings ((n, Read (records.Tx tx)) ∷ rs) text k e = absurd (none-some text e)
of_readings ((n, Read (records.Print what)) ∷ rs) text k e = absurd (none-some text e)
of_readings ((n, Malformed field place) ∷ rs) text k e = absurd (none-some text e)
of_readings ((n, TooLong) ∷ rs) text k e = absurd (none-some text e)

pub of_bytes : (bytes : List ℕ) (text : Text) → certificates_of_bytes bytes ≡ Some text → AreOf text
of_bytes bytes text e = of_readings (records_of bytes) text (good_lines 1 (pieces_of bytes)) e

-- What is read of a stream: records of the form and within the limits, and no more of them than lines that say something.
use Rattle.std.proofs.Common.{◌≡◌, ℕ, ◌+◌, ◌*◌, ◌≤◌, List, [], ◌∷◌, Bool, true, false, cond, Option, Some, None, Result, Ok, Err, filter_map, length, map, nat_le, sum_by, refl, arith}
use Rattle.std.specs.Prelude.{IfOk, if◌then◌else◌}
use Rattle.std.specs.List.{AllByRecursion, cons_option, list_all}
use Rattle.std.specs.Option.{option_map}
use Rattle.std.proofs.lemmas.Bool.{and_from, le-leb, leb-true}
use Rattle.std.proofs.lemmas.List.Sums.{sum_by-cons}
use Rattle.dormant_laws.proofs.Lists.{left_of, right_of}
use Rattle.tx_records.specs.declared.limits.TheConstants.{LINE_LIMIT, TX_LIST_LIMIT}
use Rattle.tx_records.specs.declared.record.Reading.{Reading}
use Rattle.tx_records.specs.declared.record.Reading.TheVariants.{Read, Malformed, TooLong}
use Rattle.tx_records.specs.declared.record.Record.{Record}
use Rattle.tx_records.specs.declared.record.Record.TheVariants as records
use Rattle.tx_records.specs.RecordLimits.{is_within_limits}
use Rattle.run_model.specs.Runs.{world_after_all}
use Rattle.run_model.specs.Step.{step}
use Rattle.run_model.specs.World.{World}
use Rattle.text_forms.specs.Worlds.{world_after_readings}
use Rattle.byte_lines.specs.Pieces.{kept}
use Rattle.record_read.specs.LineFaults as faults
use Rattle.record_read.specs.Lines.{record_of_line}
use Rattle.record_read.proofs.RecordsGive.{record_of_line-within}
use Rattle.record_stream.specs.Records.{is_blank, reading_by, records_from}
use Rattle.formed_lines.specs.of_formed_laws.Counts.{registrations_of}
use Rattle.formed_lines.specs.of_formed_laws.Records.{is_formed}
use Rattle.formed_lines.proofs.Lines.{lines_give_formed}
use Rattle.action_lengths.specs.Laws.{are_within, is_within}
use Rattle.action_lengths.proofs.Lines.{lines_hold_their_actions}
use Rattle.tx_records.specs.declared.tx.ProposalRecord.{ProposalRecord}
use Rattle.text_forms.specs.ActionText.{action_text}
use Rattle.stream_laws.proofs.Pieces.{filled}

-- the record that was read, if one was
abbrev pub read_record : ℕ × Reading → Option Record
read_record (n, Read r) = Some r
read_record (n, Malformed field place) = None
read_record (n, TooLong) = None

-- the records of readings
abbrev pub read_records : List (ℕ × Reading) → List Record
read_records rs = filter_map read_record rs

pub runs : (w : World) (rs : List (ℕ × Reading)) → world_after_readings w rs ≡ world_after_all w (read_records rs)
runs w [] = refl
runs w ((n, Malformed field place) ∷ rs) = runs w rs
runs w ((n, TooLong) ∷ rs) = runs w rs
runs w ((n, Read r) ∷ rs) = runs (step w r).0 rs

-- within the limits, of the form, and with actions that no line is too short for
pub record IsGood (r : Record) : Type 0 where
  pub within : is_within_limits r ≡ true
  pub formed : is_formed r ≡ true
  pub held : are_within LINE_LIMIT r ≡ true

abbrev pub AreGood : List Record → Type 0
AreGood rs = AllByRecursion IsGood rs

-- a longer line holds them, too
held_within : (n : ℕ) (ps : List ProposalRecord) → n ≤ LINE_LIMIT → list_all (λ (p : ProposalRecord). is_within n p.action) ps ≡ true → list_all (λ (p : ProposalRecord). is_within LINE_LIMIT p.action) ps ≡ true
held_within n [] l h = refl
held_within n (p ∷ ps) l h =
    let here : length (action_text p.action) + 80 ≤ n = leb-true (length (action_text p.action) + 80) n (left_of (is_within n p.action) (list_all (λ (q : ProposalRecord). is_within n q.action) ps) h) in
    and_from (is_within LINE_LIMIT p.action) (list_all (λ (q : ProposalRecord). is_within LINE_LIMIT q.action) ps) (le-leb (length (action_text p.action) + 80) LINE_LIMIT (omega (arith, here, l)))
    (held_within n ps l (right_of (is_within n p.action) (list_all (λ (q : ProposalRecord). is_within n q.action) ps) h))

holds_more : (n : ℕ) (r : Record) → n ≤ LINE_LIMIT → are_within n r ≡ true → are_within LINE_LIMIT r ≡ true
holds_more n (records.Genesis g) l h = refl
holds_more n (records.Block slot pulse) l h = refl
holds_more n (records.Rewards u) l h = refl
holds_more n (records.Tx tx) l h = held_within n tx.proposals l h
holds_more n (records.Print what) l h = refl

good_if : (n : ℕ) (found : Result Record faults.LineFault) → n ≤ LINE_LIMIT → IfOk found (λ r. is_within_limits r ≡ true) → IfOk found (λ r. is_formed r ≡ true) → IfOk found (λ r. are_within n r ≡ true) → IfOk found IsGood
good_if n (Ok r) l h k a = record { within = h; formed = k; held = holds_more n r l a }
good_if n (Err e) l h k a = tt

-- one reading more
good_reading : (n : ℕ) (found : Result Record faults.LineFault) (rs : List (ℕ × Reading)) → IfOk found IsGood → AreGood (read_records rs) → AreGood (read_records ((n, reading_by found) ∷ rs))
good_reading n (Ok r) rs h k = (h, k)
good_reading n (Err faults.BadJson) rs h k = k
good_reading n (Err faults.UnknownKind) rs h k = k
good_reading n (Err (faults.BadField name place)) rs h k = k

few_reading : (n : ℕ) (found : Result Record faults.LineFault) (rs : List (ℕ × Reading)) → length (read_records ((n, reading_by found) ∷ rs)) ≤ 1 + length (read_records rs)
few_reading n (Ok r) rs = omega arith
few_reading n (Err faults.BadJson) rs = omega arith
few_reading n (Err faults.UnknownKind) rs = omega arith
few_reading n (Err (faults.BadField name place)) rs = omega arith

good_piece : (n : ℕ) (c : Bool) (line : List ℕ) (ps : List (List ℕ)) → nat_le (length line) LINE_LIMIT ≡ c → AreGood (read_records (records_from (n + 1) (map (kept LINE_LIMIT) ps)))
    → AreGood (read_records (records_from n (cond c (Some line) None ∷ map (kept LINE_LIMIT) ps)))
good_piece n false line ps e h = h
good_piece n true line ps e h =
    let rest : List (ℕ × Reading) = records_from (n + 1) (map (kept LINE_LIMIT) ps) in
    elim (is_blank line) as (λ b. AreGood (read_records (cons_option (option_map (λ r. (n, r)) (if b then None else Some (reading_by (record_of_line line)))) rest))) [
      | true ↦ h
      | false ↦ good_reading n (record_of_line line) rest
          (good_if (length line) (record_of_line line) (leb-true (length line) LINE_LIMIT e) (record_of_line-within line) (lines_give_formed line) (lines_hold_their_actions line)) h
    ]

pub good_lines : (n : ℕ) (ps : List (List ℕ)) → AreGood (read_records (records_from n (map (kept LINE_LIMIT) ps)))
good_lines n [] = tt
good_lines n (line ∷ ps) = good_piece n (nat_le (length line) LINE_LIMIT) line ps refl (good_lines (n + 1) ps)

few_filled : (n : ℕ) (b : ℕ) (p : List ℕ) (ps : List (List ℕ)) → length (read_records (records_from (n + 1) (map (kept LINE_LIMIT) ps))) ≤ filled ps
    → length (read_records (records_from n (map (kept LINE_LIMIT) ((b ∷ p) ∷ ps)))) ≤ 1 + filled ps
few_filled n b p ps h =
    let line : List ℕ = b ∷ p in
    let rest : List (ℕ × Reading) = records_from (n + 1) (map (kept LINE_LIMIT) ps) in
    elim (nat_le (length line) LINE_LIMIT) as (λ c. length (read_records (records_from n (cond c (Some line) None ∷ map (kept LINE_LIMIT) ps))) ≤ 1 + filled ps) [
      | true ↦ elim (is_blank line) as (λ c. length (read_records (cons_option (option_map (λ r. (n, r)) (if c then None else Some (reading_by (record_of_line line)))) rest)) ≤ 1 + filled ps) [
        | true ↦ omega (arith, h)
        | false ↦ omega (arith, h, few_reading n (record_of_line line) rest)
      ]
      | false ↦ omega (arith, h)
    ]

pub few_lines : (n : ℕ) (ps : List (List ℕ)) → length (read_records (records_from n (map (kept LINE_LIMIT) ps))) ≤ filled ps
few_lines n [] = omega arith
few_lines n ([] ∷ ps) = few_lines (n + 1) ps
few_lines n ((b ∷ p) ∷ ps) = few_filled n b p ps (few_lines (n + 1) ps)

-- ---- registrations

certs_few : (r : Record) → is_within_limits r ≡ true → registrations_of r ≤ TX_LIST_LIMIT
certs_few (records.Genesis g) h = omega arith
certs_few (records.Block slot pulse) h = omega arith
certs_few (records.Rewards u) h = omega arith
certs_few (records.Tx tx) h =
    let lists = left_of _ _ (left_of _ _ (left_of _ _ (left_of _ _ (left_of _ _ (left_of _ _ (left_of _ _ (left_of _ _ (left_of _ _ h)))))))) in
    leb-true (length tx.certs) TX_LIST_LIMIT (right_of _ _ (left_of _ _ (left_of _ _ lists)))
certs_few (records.Print what) h = omega arith

pub registrations_few : (rs : List Record) → list_all is_within_limits rs ≡ true → sum_by registrations_of rs ≤ 65536 * length rs
registrations_few [] h = omega arith
registrations_few (r ∷ rs) h =
    omega (arith, sum_by-cons registrations_of r rs, certs_few r (left_of (is_within_limits r) (list_all is_within_limits rs) h), registrations_few rs (right_of (is_within_limits r) (list_all is_within_limits rs) h))

-- the parts of what holds of each record
pub within_good : (rs : List Record) → AreGood rs → list_all is_within_limits rs ≡ true
within_good [] h = refl
within_good (r ∷ rs) h = and_from (is_within_limits r) (list_all is_within_limits rs) h.0.within (within_good rs h.1)

pub formed_good : (rs : List Record) → AreGood rs → list_all is_formed rs ≡ true
formed_good [] h = refl
formed_good (r ∷ rs) h = and_from (is_formed r) (list_all is_formed rs) h.0.formed (formed_good rs h.1)

pub held_good : (rs : List Record) → AreGood rs → list_all (are_within LINE_LIMIT) rs ≡ true
held_good [] h = refl
held_good (r ∷ rs) h = and_from (are_within LINE_LIMIT r) (list_all (are_within LINE_LIMIT) rs) h.0.held (held_good rs h.1)

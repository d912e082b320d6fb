-- What a line of a followed stream reads as is within the limits.
use Rattle.std.proofs.Common.{◌≡◌, ℕ, Bool, true, false, cond, List, Option, Some, None, Result, Ok, Err, IfOk, codes, nat_lt, refl, subst}
use Rattle.serde_json.specs.Data.{Data}
use Rattle.serde_json.specs.Find.{as_number, as_u64}
use Rattle.tx_records.specs.declared.field.FieldName.TheVariants as fields
use Rattle.tx_records.specs.declared.limits.TheConstants.{SLOT_LIMIT}
use Rattle.tx_records.specs.declared.record.Record.{Record}
use Rattle.tx_records.specs.RecordLimits as records
use Rattle.tx_records.specs.Limits.{is_slot}
use Rattle.json_fields.specs.declared.fault.FieldFault.{FieldFault}
use Rattle.json_fields.specs.declared.fault.FieldFault.TheVariants.{WrongKind, OutOfRange}
use Rattle.json_fields.specs.Kinds.{field_in}
use Rattle.json_fields.specs.Steps.{◌>>=◌, or_fault}
use Rattle.record_read.specs.declared.fault.RecordFault.{RecordFault}
use Rattle.record_read.specs.Entries.{slot_in}
use Rattle.record_read.specs.Fields.{named}
use Rattle.record_read.specs.LineFaults.{LineFault, BadJson}
use Rattle.record_read.specs.Lines.{json_of, record_of_line}
use Rattle.record_read.specs.Records.{record_in}
use Rattle.follow_records.specs.declared.record.FollowRecord.{FollowRecord}
use Rattle.follow_records.specs.declared.record.FollowRecord.TheVariants.{Plain, Rollback}
use Rattle.follow_model.specs.Laws.{is_within_limits}
use Rattle.follow_read.specs.Lines.{ReadsFollow, follow_record_in, follow_record_of_line, is_rollback, rollback_in}

-- where each next step gives only such values, so do all
steps : {A B E : Type 0} (P : B → Type 0) (r : Result A E) (f : A → Result B E) → ((a : A) → IfOk (f a) P) → IfOk (r >>= f) P
steps P (Ok a) f each = each a
steps P (Err e) f each = tt

below : (k : ℕ) (b : Bool) → nat_lt k SLOT_LIMIT ≡ b → IfOk {E = FieldFault} (cond b (Ok k) (Err OutOfRange)) (λ n. is_slot n ≡ true)
below k true is = is
below k false is = tt

slot_within : (d : Data) → IfOk (slot_in d) (λ n. is_slot n ≡ true)
slot_within d =
    steps (λ n. is_slot n ≡ true) (or_fault WrongKind (as_number d)) _ (λ n.
    steps (λ n. is_slot n ≡ true) (or_fault OutOfRange (as_u64 n)) _ (λ k. below k (nat_lt k SLOT_LIMIT) refl))

of_slot : (r : Result ℕ FieldFault) → IfOk r (λ n. is_slot n ≡ true) → IfOk (named fields.Slot r >>= λ slot. Ok (Rollback slot)) (λ x. is_within_limits x ≡ true)
of_slot (Ok slot) h = h
of_slot (Err fault) h = tt

rollback_within : (d : Data) → IfOk (rollback_in d) (λ x. is_within_limits x ≡ true)
rollback_within d = of_slot (field_in (codes "slot") d >>= slot_in) (steps (λ n. is_slot n ≡ true) (field_in (codes "slot") d) slot_in slot_within)

of_plain : (r : Result Record LineFault) → IfOk r (λ x. records.is_within_limits x ≡ true) → IfOk (r >>= λ x. Ok (Plain x)) (λ x. is_within_limits x ≡ true)
of_plain (Ok x) h = h
of_plain (Err fault) h = tt

either : (b : Bool) (x y : Result FollowRecord LineFault) → IfOk x (λ r. is_within_limits r ≡ true) → IfOk y (λ r. is_within_limits r ≡ true)
    → IfOk (cond b x y) (λ r. is_within_limits r ≡ true)
either true x y p q = p
either false x y p q = q

of_value : (j : Option Data) → IfOk (or_fault BadJson j >>= record_in) (λ r. records.is_within_limits r ≡ true) → IfOk (or_fault BadJson j >>= follow_record_in) (λ r. is_within_limits r ≡ true)
of_value None h = tt
of_value (Some d) h = either (is_rollback d) (rollback_in d) (record_in d >>= λ r. Ok (Plain r)) (rollback_within d) (of_plain (record_in d) h)

-- what a reader answers is, where that of a replay's records is
pub follow_within : (line : List ℕ) (result : Result FollowRecord RecordFault) → IfOk (record_of_line line) (λ r. records.is_within_limits r ≡ true)
    → ReadsFollow result (follow_record_of_line line) → IfOk result (λ r. is_within_limits r ≡ true)
follow_within line (Ok r) law reads =
    subst (λ (x : Result FollowRecord LineFault). IfOk x (λ y. is_within_limits y ≡ true)) reads (of_value (json_of line) law)
follow_within line (Err e) law reads = tt

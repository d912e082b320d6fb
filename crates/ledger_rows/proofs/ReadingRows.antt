-- Worked rows of lines that give no record, or a second genesis.
use Rattle.std.specs.Prelude.{ℕ, ◌≡◌, List, [], ◌∷◌, Some, None, true, codes, refl}
use Rattle.std.specs.Fmt.{digits}
use Rattle.hex.specs.Hex.{encode_with}
use Rattle.tx_records.specs.declared.field.FieldName.TheVariants as field
use Rattle.tx_records.specs.declared.record.Record.TheVariants as records
use Rattle.tx_records.specs.declared.record.Reading.{Reading}
use Rattle.tx_records.specs.declared.record.Reading.TheVariants.{Read, Malformed, TooLong}
use Rattle.ledger_rows.proofs.Base.{base, says}

abbrev no_records_input : List (ℕ × Reading)
no_records_input =
    (1, Read (records.Genesis base)) ∷
    (2, Malformed field.Id None) ∷
    (4, Malformed field.Kind None) ∷
    (5, Malformed field.Json None) ∷
    (6, Malformed field.Certs (Some 1)) ∷
    (7, Read (records.Genesis base)) ∷
    (8, TooLong) ∷
    []

pub no_records : says no_records_input (
    codes "2 refused 1 Malformed id" ∷
    codes "4 refused 1 Malformed kind" ∷
    codes "5 refused 1 Malformed json" ∷
    codes "6 refused 1 Malformed certs[1]" ∷
    codes "7 refused 3 GenesisAgain" ∷
    codes "8 refused 2 TooLong" ∷
    []) ≡ true
unfolding digits encode_with
no_records = refl

-- The law on the length of the results of a certificate. (Own)
use Rattle.std.specs.Prelude.{◌≡◌, true}
use Rattle.gov_model.specs.Snapshot.{Snapshot}
use Rattle.text_forms.specs.Lines.{are_short_lines}
use Rattle.text_forms.specs.Snapshots.{is_snapshot}
use Rattle.certificate_model.specs.Certificate.{claim_lines}

-- no line of the results is too long, if the snapshot has the form of the formats
abbrev pub ClaimsAreShort : Type 0
ClaimsAreShort = (f : Snapshot) → is_snapshot f ≡ true → are_short_lines (claim_lines f) ≡ true

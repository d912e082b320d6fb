-- What `certify` tells, and how its runs end. (Own)
use Rattle.std.specs.Prelude.{◌≡◌, ℕ, Bool, false, List, [], Option, Some, None, if◌then◌else◌}
use Rattle.certificate_model.specs.Certificate.{certificate_text}
use Rattle.certificate_model.specs.Checked.{certificate_of_reading, certificates_of_readings}
use Rattle.ledger_model.specs.Checks.{first_among}
use Rattle.run_model.specs.Step.{block_checks, enters_next}
use Rattle.run_model.specs.World.{World}
use Rattle.text_model.specs.Words.{Text}
use Rattle.tx_records.specs.declared.record.Reading.{Reading}
use Rattle.tx_records.specs.declared.record.Reading.TheVariants.{Read}
use Rattle.tx_records.specs.declared.record.Record.TheVariants as records
use Rattle.tx_records.specs.declared.reply.Rule.{Rule}
use Rattle.replay_loop.specs.declared.status.Status.TheVariants as statuses
use Rattle.replay_loop.specs.Lasts.{IsToldRun, IsWhole}
use Rattle.replay_loop.specs.Plays.{Telling}

-- by the first rule that a block breaks, and whether its slot is in the next epoch
abbrev pub ends_by : Option Rule → Bool → Bool
ends_by None enters = enters
ends_by (Some rule) enters = false

-- a block of this slot and pulse breaks no rule and ends the epoch
abbrev pub ends_epoch : World → ℕ → ℕ → Bool
ends_epoch w slot pulse = ends_by (first_among (block_checks w.ledger slot pulse)) (enters_next w.ledger slot)

-- the slot and the pulse of a block that was read
abbrev pub block_in : Reading → Option (ℕ × ℕ)
block_in (Read (records.Block slot pulse)) = Some (slot, pulse)
block_in _ = None

-- the certificate of the epoch if there is a block that ends it
abbrev pub certificate_before : World → Option (ℕ × ℕ) → Text
certificate_before w None = []
certificate_before w (Some block) = if ends_epoch w block.0 block.1 then certificate_text w.frozen else []

-- the certificate of an epoch ahead of the block that ends it, and nothing else
abbrev pub certificates_told : Telling (Unit {0})
certificates_told = record { aheads = λ k w r. certificate_of_reading w r; keeps = λ k n w o. tt; tells = λ k n w o. []; closes = λ k w n. [] }

-- a run that is done wrote the certificates of all boundaries that the records of its bytes cross
abbrev pub DoneCertifyIsWhole : Type 0
DoneCertifyIsWhole = (bytes : List ℕ) (left had has : Option (List ℕ)) → IsToldRun certificates_told statuses.Done bytes left had has
    → IsWhole certificates_of_readings bytes left had has

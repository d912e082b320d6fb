-- The laws over checkpoints, each proved where a public call cites it. (Own)
use Rattle.std.specs.Prelude.{◌≡◌, ℕ, ◌++◌, Bool, List, Some, map, option_map, true}
use Rattle.std.specs.List.{list_all}
use Rattle.maps.specs.Words.{with_places}
use Rattle.gov_ids.specs.declared.ActionId.{ActionId}
use Rattle.gov_actions.specs.declared.action.Action.{Action}
use Rattle.tx_records.specs.declared.record.Reading.{Reading}
use Rattle.tx_records.specs.declared.record.Record.{Record}
use Rattle.tx_records.specs.declared.record.Record.TheVariants as records
use Rattle.tx_records.specs.Limits.{is_u64}
use Rattle.text_forms.specs.of_run_model.Runs.{IsReached}
use Rattle.text_forms.specs.of_run_model.SoundWorld.{IsSoundWorld}
use Rattle.text_forms.specs.of_run_model.World.{World}
use Rattle.text_forms.specs.Lines.{are_short_lines}
use Rattle.text_forms.specs.Snapshots.{action_words}
use Rattle.text_forms.specs.Worlds.{world_of_readings}
use Rattle.text_forms.specs.of_text_model.Runs.{text_of_readings}
use Rattle.checkpoint_model.specs.Checkpoint.{checkpoint_lines}
use Rattle.checkpoint_model.specs.Resumable.{IsResumable, has_form, holds_supply, is_counted_entry, is_timed}
use Rattle.checkpoint_model.specs.Resumed.{text_of_resume}

-- the run of one stream and then another is the run of the first,
-- then what a resume of its World writes of the second
abbrev pub ReplayIsResumed : Type 0
ReplayIsResumed = (rs ss : List (ℕ × Reading)) (w : World) → world_of_readings rs ≡ Some w →
    text_of_readings (rs ++ ss) ≡ option_map (λ t. t ++ text_of_resume w ss) (text_of_readings rs)

-- every World that records reach has the epoch of its slot
abbrev pub ReachedIsTimed : Type 0
ReachedIsTimed = (w : World) → IsReached w → is_timed w.ledger ≡ true

-- each of its frozen entries is registered or has output stake
abbrev pub ReachedEntriesCount : Type 0
ReachedEntriesCount = (w : World) → IsReached w → list_all is_counted_entry w.frozen.entries ≡ true

-- a World that is sound to be resumed is sound, so that a ledger can be made of it
abbrev pub ResumableIsSound : Type 0
ResumableIsSound = (w : World) → IsResumable w → IsSoundWorld w

-- every World that records reach is sound to be resumed, if it has the form of the formats,
-- its count fits into 64 bits, and no line of an action is too long
abbrev pub ReachedIsResumable : Type 0
ReachedIsResumable = (w : World) → IsReached w → has_form w ≡ true → is_u64 w.counted ≡ true → are_short_lines (map action_words w.ledger.proposals) ≡ true → IsResumable w

-- each proposal of a record passes
abbrev pub all_proposed : (ActionId → Action → Bool) → Record → Bool
all_proposed passes (records.Tx tx) = list_all (λ p. passes (record { tx = tx.id; index = p.0 }) p.1.action) (with_places tx.proposals)
all_proposed passes r = true

-- what passes of each proposal of the records passes of each live one:
-- so no action is longer than one that was read
abbrev pub ReachedWereProposed : Type 0
ReachedWereProposed = (passes : ActionId → Action → Bool) (w : World) (reached : IsReached w) → list_all (all_proposed passes) reached.records ≡ true →
    list_all (λ p. passes p.id p.action) w.ledger.proposals ≡ true

-- no line of the checkpoint of a World is too long, if it has the form of the formats, its clock
-- and supply are right, its count fits into 64 bits, and no line of an action is too long
abbrev pub ShortByForm : Type 0
ShortByForm = (w : World) → has_form w ≡ true → is_timed w.ledger ≡ true → holds_supply w.ledger ≡ true → is_u64 w.counted ≡ true →
    are_short_lines (map action_words w.ledger.proposals) ≡ true → are_short_lines (checkpoint_lines w 0) ≡ true

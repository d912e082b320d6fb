-- The laws over the texts of runs. Each is the contract of a function in src/laws.rt. (Own)
use Rattle.std.specs.Prelude.{◌≡◌, ℕ, List, [], ◌∷◌, ◌++◌, None, true}
use Rattle.std.specs.List.{AllZip, list_all}
use Rattle.tx_records.specs.GenesisLimits as genesis_limits
use Rattle.tx_records.specs.RecordLimits.{is_within_limits}
use Rattle.tx_records.specs.declared.genesis.Genesis.{Genesis}
use Rattle.tx_records.specs.declared.record.Reading.{Reading}
use Rattle.tx_records.specs.declared.record.Reading.TheVariants.{Read}
use Rattle.tx_records.specs.declared.record.Record.{Record}
use Rattle.tx_records.specs.declared.record.Record.TheVariants.{Block}
use Rattle.tx_records.specs.declared.reply.Reply.TheVariants.{Refused}
use Rattle.tx_records.specs.declared.reply.Rule.{Rule}
use Rattle.gov_model.specs.Snapshot.{entry_count}
use Rattle.run_model.specs.Genesis.{genesis_fault, world_of_genesis}
use Rattle.run_model.specs.Runs.{counted_of, world_after_all}
use Rattle.run_model.specs.Step.{enters_next, refusal_of, step}
use Rattle.run_model.specs.World.{World}
use Rattle.text_model.specs.Replies.{reply_words, words_of_block}
use Rattle.text_model.specs.Runs.{crossing_lines, reading_lines, text_of_readings, world_after_reading}
use Rattle.text_laws.specs.Alike.{AreAlikeButCounted, IsReadSameButPulse}
use Rattle.text_laws.specs.Walks.{DoPotsMove, records_of_readings}

-- if two runs differ only in positive pulses, whatever is read,
-- their texts differ only in counted numbers
abbrev pub PulsesDoNotShowInText : Type 0
PulsesDoNotShowInText = (rs ss : List (ℕ × Reading)) → AllZip IsReadSameButPulse rs ss →
    AreAlikeButCounted (text_of_readings rs) (text_of_readings ss)

-- the counted number in the line of a block is what the pulses of the epoch's accepted blocks
-- count, with that block's
abbrev pub CountedIsShown : Type 0
CountedIsShown = (g : Genesis) → genesis_limits.is_within_limits g ≡ true → genesis_fault g ≡ None →
    (rs : List Record) (slot pulse : ℕ) → list_all is_within_limits (rs ++ Block slot pulse ∷ []) ≡ true →
    let start : World = world_of_genesis g in
    let w : World = world_after_all start rs in
    let v : World = (step w (Block slot pulse)).0 in
    refusal_of w (Block slot pulse) ≡ None →
    reading_lines w (Read (Block slot pulse))
    ≡ crossing_lines (enters_next w.ledger slot) w
    ++ words_of_block slot v.ledger.epoch (counted_of start (rs ++ Block slot pulse ∷ [])) (entry_count v.frozen) ∷ []

-- a line that says refused is of a reading that changes nothing
abbrev pub RefusalsChangeNothing : Type 0
RefusalsChangeNothing = (w : World) (r : Reading) (rule : Rule) → reading_lines w r ≡ reply_words (Refused rule) ∷ [] →
    world_after_reading w r ≡ w

-- from the genesis on, each reading moves each pot by its flows
-- and the pots hold the supply of the genesis
abbrev pub PotsMove : Type 0
PotsMove = (g : Genesis) (rs : List (ℕ × Reading)) → genesis_limits.is_within_limits g ≡ true → genesis_fault g ≡ None →
    list_all is_within_limits (records_of_readings rs) ≡ true → DoPotsMove g.supply (world_of_genesis g) rs

use Rattle.std.proofs.Common.{◌∙◌, subst, sym}
use Rattle.checkpoint_model.specs.Resumed.{IsCheckpoint}
use Rattle.line_giver.specs.OfList.{texts_of}
use Rattle.run_model.specs.World.{World}
use Rattle.state_lists.specs.Worlds.{world_of_lists}
use Rattle.checkpoint.specs.Only.{IsOfNoOther}
use Rattle.checkpoint.proofs.Whole.{all_read, no_lines, no_other, none_read, nothing_left, some_lines}
use Rattle.checkpoint.proofs.reading.read.Goals as goal

-- src/reading.rt:34:9
pub returns-in_default-read-clause-bad : goal.returns-in_default-read-clause-bad
returns-in_default-read-clause-bad c _ =
    none_read world_of_lists (texts_of c.args.lines.now) (texts_of c.read_sound.new.giver.lines.now) c.read_sound.new.giver.is_seen c.in-Ok.read c.in-Ok.ensures.reads c.in_default-read.is

-- src/reading.rt:37:9
pub returns-then-not-is_empty-clause-bad : goal.returns-then-not-is_empty-clause-bad
returns-then-not-is_empty-clause-bad c _ w line is =
    some_lines c.read_sound.new.giver.lines.now (sym c.if-not-is_empty.ensures)
    (nothing_left world_of_lists (texts_of c.args.lines.now) (texts_of c.read_sound.new.giver.lines.now) c.read_sound.new.giver.is_seen c.in-Ok.read c.in-Ok.ensures.reads w line is)

-- src/reading.rt:16:1
pub returns-clause-made : goal.returns-clause-made
returns-clause-made c =
    subst (λ (w : World). IsCheckpoint (texts_of c.args.lines.now) w c.in-Some.line) (sym c.in_ok-ledger.ensures)
    (all_read world_of_lists (texts_of c.args.lines.now) (texts_of c.read_sound.new.giver.lines.now) c.read_sound.new.giver.is_seen c.in-Ok.read c.in-Ok.ensures.reads c.in-Some.lists c.in-Some.line c.in-Some.is
    (no_lines c.read_sound.new.giver.lines.now (sym c.is_empty.ensures ∙ c.if-not-is_empty.false)))

-- src/reading.rt:16:1
pub returns-clause-only : goal.returns-clause-only
returns-clause-only c =
    subst (λ (w : World). IsOfNoOther (texts_of c.args.lines.now) w c.in-Some.line) (sym c.in_ok-ledger.ensures)
    (no_other world_of_lists (texts_of c.args.lines.now) (texts_of c.read_sound.new.giver.lines.now) c.read_sound.new.giver.is_seen c.in-Ok.read c.in-Ok.ensures.reads c.in-Some.lists c.in-Some.line c.in-Some.is)

use Rattle.record_notes.proofs.Known.{name_looked}
use Rattle.record_notes.proofs.Saying.{has_said_nothing, has_said_same}
use Rattle.record_notes.proofs.unread.say_name.Goals as goal

pub returns-then-is_known : goal.returns-then-is_known
returns-then-is_known c = has_said_nothing c.args.walk.now _ (name_looked c.args.walk.now.path.items c.args.members.now c.args.name.now _ c.if-is_known.ensures)

pub returns-else-is_known : goal.returns-else-is_known
returns-else-is_known c =
    has_said_same c.args.walk.now c.say_of.new.self c.say_of.result _ _ (name_looked c.args.walk.now.path.items c.args.members.now c.args.name.now _ c.if-is_known.ensures) c.say_of.ensures

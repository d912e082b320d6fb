use Rattle.record_notes.proofs.Looks.{word_looked}
use Rattle.record_notes.proofs.Saying.{has_said_nothing, has_said_same}
use Rattle.record_notes.proofs.walk.look_word.Goals as goal

pub returns-in-Ok : goal.returns-in-Ok
returns-in-Ok c =
    has_said_nothing c.args.walk.now _
    (word_looked c.args.walk.now.all c.args.walk.now.path.items _ c.args.words.now c.in-Ok.word.now _ c.in-Ok.ensures c.if-is_among.ensures)

pub returns-in-Ok-2 : goal.returns-in-Ok-2
returns-in-Ok-2 c =
    has_said_same c.args.walk.now c.say_wrong.new.self c.say_wrong.result _ _
    (word_looked c.args.walk.now.all c.args.walk.now.path.items _ c.args.words.now c.in-Ok.word.now _ c.in-Ok.ensures c.if-is_among.ensures) c.say_wrong.ensures

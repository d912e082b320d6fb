use Rattle.std.proofs.Common.{◌++◌, List, ap, append-nil, arith, map, sym, ◌∙◌}
use Rattle.record_notes.specs.Notes.{Said, said_in}
use Rattle.record_notes.specs.Paths.{entry_path}
use Rattle.record_notes.specs.Seen.{note_seen}
use Rattle.record_shapes.specs.Seen.{member_seen}
use Rattle.record_notes.proofs.Looks.{array_looked, one_looked}
use Rattle.record_notes.proofs.Parts.{over_the_end}
use Rattle.record_notes.proofs.Saying.{has_said_nothing, has_said_same}
use Rattle.record_notes.proofs.Quiet.{of_a_list, of_a_member, of_a_value}
use Rattle.record_notes.proofs.walk.+look.Goals as goal

pub look_array-returns-in-Some : goal.look_array-returns-in-Some
look_array-returns-in-Some t c =
    has_said_same c.args.walk.now c.look_parts.new.walk c.look_parts.result _ _
    (array_looked c.args.walk.now.all c.args.walk.now.path.items _ (said_in c.args.depth c.args.walk.now.all) c.args.shapes.now c.args.last_may_lack c.in-Some.items.now _ c.in-Some.ensures c.if-fit.ensures)
    c.look_parts.ensures

pub look_array-returns-in-Some-2 : goal.look_array-returns-in-Some-2
look_array-returns-in-Some-2 t c =
    has_said_same c.args.walk.now c.say_wrong.new.self c.say_wrong.result _ _
    (array_looked c.args.walk.now.all c.args.walk.now.path.items _ (said_in c.args.depth c.args.walk.now.all) c.args.shapes.now c.args.last_may_lack c.in-Some.items.now _ c.in-Some.ensures c.if-fit.ensures)
    c.say_wrong.ensures

pub look_one-returns-in-Some : goal.look_one-returns-in-Some
look_one-returns-in-Some t c =
    has_said_same c.args.walk.now c.look.new.walk c.look.result _ _
    (one_looked c.args.walk.now.all c.args.walk.now.path.items _ (said_in c.args.depth c.args.walk.now.all) c.args.by.now c.args.kinds.now _ _ _ (sym c.if-not-is_object.false ∙ c.is_object.ensures) c.in-Ok.ensures c.in-Ok-read_text.ensures c.in-Some.ensures)
    c.look.ensures

pub look_one-returns-in-None : goal.look_one-returns-in-None
look_one-returns-in-None t c =
    has_said_same c.args.walk.now c.say_wrong_of-in-None.new.self c.say_wrong_of-in-None.result _ _
    (one_looked c.args.walk.now.all c.args.walk.now.path.items _ (said_in c.args.depth c.args.walk.now.all) c.args.by.now c.args.kinds.now _ _ _ (sym c.if-not-is_object.false ∙ c.is_object.ensures) c.in-Ok.ensures c.in-Ok-read_text.ensures c.in-None.ensures)
    c.say_wrong_of-in-None.ensures

pub look_parts-returns : goal.look_parts-returns
look_parts-returns t c =
    let inside = said_in c.args.depth c.args.walk.now.all in
    let over = over_the_end c.args.walk.now.all inside c.args.walk.now.path.items c.loop-index.index c.args.shapes.now c.args.items.now c.loop-index.index (omega (arith, c.min-count.ensures, c.loop-index-test.false)) in
    record {
      all = c.loop-index.invariant.all;
      path = c.loop-index.invariant.path;
      notes = sym (append-nil _) ∙ ap (λ (l : List Said). map note_seen c.loop-index.walk.notes.items ++ l) (sym over) ∙ c.loop-index.invariant.notes;
    }

pub look_list-returns-then-is_quiet : goal.look_list-returns-then-is_quiet
look_list-returns-then-is_quiet t c = has_said_nothing c.args.walk.now _ (of_a_list c.args.depth c.args.walk.now.all c.args.walk.now.path.items c.args.shape _ (sym c.if-is_quiet.ensures))

pub look_member-returns-then-is_quiet : goal.look_member-returns-then-is_quiet
look_member-returns-then-is_quiet t c =
    has_said_nothing c.args.walk.now _ (of_a_member c.args.depth c.args.walk.now.all c.args.walk.now.path.items c.args.is_whole (member_seen c.args.member.now) _ (sym c.if-is_quiet.ensures))

pub look_entry-returns-then-is_quiet : goal.look_entry-returns-then-is_quiet
look_entry-returns-then-is_quiet t c =
    has_said_nothing c.args.walk.now _ (of_a_value c.args.depth c.args.walk.now.all (entry_path c.args.walk.now.path.items c.args.index) c.args.shape _ (sym c.if-is_quiet.ensures))

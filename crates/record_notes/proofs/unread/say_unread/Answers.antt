use Rattle.std.proofs.Common.{ℕ, Bor, List, ap, map, sym, ◌∙◌}
use Rattle.json_tree.specs.View.{members_view}
use Rattle.record_notes.specs.Seen.{names_said}
use Rattle.record_notes.proofs.Saying.{has_said_nothing, has_said_same}
use Rattle.record_notes.proofs.Known.{all_known, by_names}
use Rattle.record_notes.proofs.unread.say_unread.Goals as goal

pub returns-then-are_known : goal.returns-then-are_known
returns-then-are_known c = has_said_nothing c.args.walk.now _ (all_known c.args.members.now c.args.fields.now c.args.walk.now.all c.args.walk.now.path.items (sym c.if-are_known.ensures))

pub returns : goal.returns
returns c =
    has_said_same c.args.walk.now c.say_names.new.walk c.say_names.result _ _
    (sym (by_names c.args.walk.now.all c.args.walk.now.path.items _ (members_view c.args.fields.now))
    ∙ ap (names_said c.args.walk.now.path.items _)
    (sym c.in_ok-names.ensures ∙ ap (map (λ (n : Bor (List ℕ)). n.now)) (sym c.in_ok-names-2.ensures ∙ sym c.as_slice.ensures.value))) c.say_names.ensures

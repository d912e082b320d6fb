use Rattle.std.proofs.Common.{◌≡◌, ◌++◌, drop, map}
use Rattle.record_notes.specs.Seen.{names_said, note_seen}
use Rattle.record_shapes.specs.Seen.{member_seen}
use Rattle.record_notes.proofs.unread.say_names.Given as goal

-- what was said so far, and what there is to say of the names that are left, is what there is to
-- say of all
abbrev pub invariant-loop-name : goal.invariant-loop-name
invariant-loop-name l = record {
  all : l.walk.all ≡ l.initial.walk.all;
  path : l.walk.path.items ≡ l.initial.walk.path.items;
  notes : map note_seen l.walk.notes.items ++ names_said l.initial.walk.path.items (map member_seen l.members) (map (λ n. n.now) (drop l.name-index l.names))
      ≡ map note_seen l.initial.walk.notes.items ++ names_said l.initial.walk.path.items (map member_seen l.members) (map (λ n. n.now) l.names);
}

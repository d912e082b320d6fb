use Rattle.std.proofs.Common.{◌≡◌, ◌++◌, ◌+◌, ◌*◌, drop, map}
use Rattle.json_tree.specs.View.{items_view, view}
use Rattle.record_notes.specs.Notes.{entries_said, members_said, parts_said, said_in}
use Rattle.record_notes.specs.Seen.{note_seen}
use Rattle.record_shapes.specs.Seen.{member_seen}
use Rattle.record_notes.proofs.walk.+look.Given as goal

abbrev pub decreases-look : goal.decreases-look
decreases-look l = 4 * l.depth

abbrev pub decreases-look_entry : goal.decreases-look_entry
decreases-look_entry l = 4 * l.depth + 1

abbrev pub decreases-look_member : goal.decreases-look_member
decreases-look_member l = 4 * l.depth + 1

abbrev pub decreases-look_entries : goal.decreases-look_entries
decreases-look_entries l = 4 * l.depth + 2

abbrev pub decreases-look_parts : goal.decreases-look_parts
decreases-look_parts l = 4 * l.depth + 2

abbrev pub decreases-look_members : goal.decreases-look_members
decreases-look_members l = 4 * l.depth + 2

abbrev pub decreases-look_list : goal.decreases-look_list
decreases-look_list l = 4 * l.depth + 3

abbrev pub decreases-look_array : goal.decreases-look_array
decreases-look_array l = 4 * l.depth + 3

abbrev pub decreases-look_object : goal.decreases-look_object
decreases-look_object l = 4 * l.depth + 3

abbrev pub decreases-look_one : goal.decreases-look_one
decreases-look_one l = 4 * l.depth + 3

-- what was said so far, and what there is to say of the entries that are left, is what there is to
-- say of all
abbrev pub invariant-look_entries-loop-item : goal.invariant-look_entries-loop-item
invariant-look_entries-loop-item l = record {
  index : l.index ≡ l.item-index;
  all : l.walk.all ≡ l.initial.walk.all;
  path : l.walk.path.items ≡ l.initial.walk.path.items;
  notes : map note_seen l.walk.notes.items ++ entries_said l.initial.walk.all (said_in l.depth l.initial.walk.all) l.initial.walk.path.items l.shape l.index (items_view (drop l.item-index l.items))
      ≡ map note_seen l.initial.walk.notes.items ++ entries_said l.initial.walk.all (said_in l.depth l.initial.walk.all) l.initial.walk.path.items l.shape 0 (items_view l.items);
}

abbrev pub invariant-look_parts-loop-index : goal.invariant-look_parts-loop-index
invariant-look_parts-loop-index l = record {
  all : l.walk.all ≡ l.initial.walk.all;
  path : l.walk.path.items ≡ l.initial.walk.path.items;
  notes : map note_seen l.walk.notes.items ++ parts_said l.initial.walk.all (said_in l.depth l.initial.walk.all) l.initial.walk.path.items (drop l.index l.shapes) l.index (items_view (drop l.index l.items))
      ≡ map note_seen l.initial.walk.notes.items ++ parts_said l.initial.walk.all (said_in l.depth l.initial.walk.all) l.initial.walk.path.items l.shapes 0 (items_view l.items);
}

abbrev pub invariant-look_members-loop-member : goal.invariant-look_members-loop-member
invariant-look_members-loop-member l = record {
  all : l.walk.all ≡ l.initial.walk.all;
  path : l.walk.path.items ≡ l.initial.walk.path.items;
  notes : map note_seen l.walk.notes.items ++ members_said l.initial.walk.all (said_in l.depth l.initial.walk.all) l.initial.walk.path.items l.is_whole (map member_seen (drop l.member-index l.members)) (view l.object)
      ≡ map note_seen l.initial.walk.notes.items ++ members_said l.initial.walk.all (said_in l.depth l.initial.walk.all) l.initial.walk.path.items l.is_whole (map member_seen l.members) (view l.object);
}

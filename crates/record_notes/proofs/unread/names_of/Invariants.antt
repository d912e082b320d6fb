use Rattle.std.proofs.Common.{◌≡◌, map, take}
use Rattle.json_tree.specs.View.{members_view}
use Rattle.record_notes.specs.Seen.{names_in}
use Rattle.record_notes.proofs.unread.names_of.Given as goal

-- the names so far are those of the members so far
abbrev pub invariant-loop-field : goal.invariant-loop-field
invariant-loop-field l = map (λ n. n.now) l.names.keys ≡ names_in (members_view (take l.field-index l.fields))

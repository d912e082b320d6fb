use Rattle.std.proofs.Common.{◌≡◌, [], ◌≤◌, drop, length}
use Rattle.json_tree.specs.View.{items_view}
use Rattle.json_fields.specs.Lists.{entries_after, is_full}
use Rattle.json_fields.proofs.lists.read_entries.Given as goal

-- what was read so far, and what is left read after it, is what all read as
abbrev pub invariant-loop-item : goal.invariant-loop-item
invariant-loop-item g l = record {
  place : l.place ≡ length l.entries;
  within : l.place ≤ l.limit;
  rest : entries_after (g.K.Kind.reading) (λ before x. is_full l.limit before) l.entries (items_view (drop l.item-index l.items))
      ≡ entries_after (g.K.Kind.reading) (λ before x. is_full l.limit before) [] (items_view l.items);
}

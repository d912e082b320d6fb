use Rattle.std.proofs.Common.{◌≡◌, [], ◌≤◌, drop, length}
use Rattle.json_tree.specs.View.{items_view}
use Rattle.json_fields.proofs.Names.{AreNames}
use Rattle.json_fields.specs.Lists.{entries_after, is_known_or_full}
use Rattle.json_fields.proofs.distinct.read_named_entries.Given as goal

-- the names are those of what was read so far; and what is left read after it, is what all read as
abbrev pub invariant-loop-item : goal.invariant-loop-item
invariant-loop-item g l = record {
  place : l.place ≡ length l.entries;
  within : l.place ≤ l.limit;
  names : AreNames g.K.Entry.Name.Name.order g.K.Entry.Named.name l.names.keys l.entries;
  rest : entries_after g.K.Kind.reading (is_known_or_full g.K.Entry.Name.Name.order g.K.Entry.Named.name l.limit) l.entries (items_view (drop l.item-index l.items))
      ≡ entries_after g.K.Kind.reading (is_known_or_full g.K.Entry.Name.Name.order g.K.Entry.Named.name l.limit) [] (items_view l.items);
}

-- The table of the code as the definitions have it.
use Rattle.std.specs.Prelude.{map}
use Rattle.record_shapes.specs.declared.shape.Kind.{Kind}
use Rattle.record_shapes.specs.declared.shape.Layout.{Layout}
use Rattle.record_shapes.specs.declared.shape.Layout.TheVariants as layouts
use Rattle.record_shapes.specs.declared.shape.Member.{Member}
use Rattle.record_shapes.specs.Layouts as tables

-- a member
abbrev pub member_seen : Member → tables.Member
member_seen m = record { name = m.name.now; is_needed = m.is_needed; shape = m.shape }

-- a kind
abbrev pub kind_seen : Kind → tables.Kind
kind_seen k = record { word = k.word.now; shape = k.shape }

-- a layout
abbrev pub layout_seen : Layout → tables.Layout
layout_seen (layouts.Plain form) = tables.Plain form
layout_seen (layouts.Word words) = tables.Word (map (λ w. w.now) words.now)
layout_seen (layouts.List shape) = tables.ListOf shape
layout_seen (layouts.Array entries last_may_lack) = tables.Array entries.now last_may_lack
layout_seen (layouts.Object members) = tables.Object (map member_seen members.now)
layout_seen (layouts.Whole members) = tables.Whole (map member_seen members.now)
layout_seen (layouts.OneOf by kinds) = tables.OneOf by.now (map kind_seen kinds.now)

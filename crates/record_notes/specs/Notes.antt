-- What there is to say of a JSON value that has to be of a shape: what in it is not so, and which
-- names nobody reads. (Own)
use Rattle.std.specs.Prelude.{ℕ, zero, suc, ◌==◌, ◌&&◌, ◌||◌, Bool, true, false, List, [], ◌∷◌, ◌++◌, Option, Some, None, Result, Ok, Err, bytes_eq, find, is_some, length, if◌then◌else◌}
use Rattle.std.specs.List.{list_any}
use Rattle.serde_json.specs.Data.{Data, Items, no_items, item, Members, no_members, member}
use Rattle.serde_json.specs.Find.{as_array, as_object, as_str}
use Rattle.json_fields.specs.declared.fault.FieldFault.{FieldFault}
use Rattle.json_fields.specs.declared.fault.FieldFault.TheVariants as faults
use Rattle.json_fields.specs.Kinds.{field_in, text_in}
use Rattle.record_shapes.specs.declared.shape.Shape.{Shape}
use Rattle.record_shapes.specs.declared.shape.Shape.TheVariants as shapes
use Rattle.record_shapes.specs.Forms.{form_fault}
use Rattle.record_shapes.specs.Layouts.{Kind, Layout, Member, layout_of, Plain, Word, ListOf, Array, Object, Whole, OneOf}
use Rattle.record_notes.specs.Paths.{entry_path, member_path}
use Rattle.record_notes.specs.declared.note.What.{What}
use Rattle.record_notes.specs.declared.note.What.TheVariants.{Missing, WrongKind, OutOfRange, UnknownForm, Unread}

-- a path, and what is to say of the value there
abbrev pub Said : Type 0
Said = List ℕ × What

-- a text is of an unknown form; a number, or the length of an array, is out of range
abbrev pub out_of_range : Data → What
out_of_range d = if is_some (as_str d) then UnknownForm else OutOfRange

-- what a reader's fault says of a value
abbrev pub what_of : FieldFault → Data → What
what_of faults.Missing d = Missing
what_of faults.WrongKind d = WrongKind
what_of faults.OutOfRange d = out_of_range d
what_of faults.NoMemory d = out_of_range d

-- how many entries
abbrev pub count_of : Items → ℕ
count_of no_items = 0
count_of (item d ds) = suc (count_of ds)

-- as many as the entries of a shape; the last one may lack where it may
abbrev pub fits : List Shape → Bool → ℕ → Bool
fits entries last_may_lack n = (n == length entries) || (last_may_lack && suc n == length entries)

-- an object of the layout has a member of this name
abbrev pub is_read : List Member → List ℕ → Bool
is_read members name = list_any (λ (m : Member). bytes_eq m.name name) members

-- what is wrong is said or, where it is not asked for, only which names nobody reads
module _ (all : Bool) where
  -- what is wrong
  abbrev pub wrong : List ℕ → What → List Said
  wrong path what = if all then (path, what) ∷ [] else []

  -- the fault of a reader, if there is one
  abbrev pub fault_said : List ℕ → Data → Option FieldFault → List Said
  fault_said path d None = []
  fault_said path d (Some fault) = wrong path (what_of fault d)

  -- a word that is none of these
  abbrev pub word_said : List ℕ → List (List ℕ) → Data → Result (List ℕ) FieldFault → List Said
  word_said path words d (Err fault) = wrong path (what_of fault d)
  word_said path words d (Ok word) = if list_any (bytes_eq word) words then [] else wrong path UnknownForm

  -- a member that lacks
  abbrev pub lack_said : Bool → List ℕ → List Said
  lack_said is_needed path = if is_needed then wrong path Missing else []

  -- each name that nobody reads, in the order of the names
  abbrev pub unread_said : List ℕ → List Member → Members → List Said
  unread_said path members no_members = []
  unread_said path members (member name d ds) = (if is_read members name then [] else (member_path path name, Unread) ∷ []) ++ unread_said path members ds

  -- what there is to say of what is inside
  module _ (inside : List ℕ → Shape → Data → List Said) where
    -- of entries of one shape, the first at the place i
    abbrev pub entries_said : List ℕ → Shape → ℕ → Items → List Said
    entries_said path shape i no_items = []
    entries_said path shape i (item d ds) = inside (entry_path path i) shape d ++ entries_said path shape (suc i) ds

    -- of a list
    abbrev pub list_said : List ℕ → Shape → Option Items → List Said
    list_said path shape None = wrong path WrongKind
    list_said path shape (Some ds) = entries_said path shape 0 ds

    -- of entries, each of its own shape
    abbrev pub parts_said : List ℕ → List Shape → ℕ → Items → List Said
    parts_said path [] i ds = []
    parts_said path (shape ∷ shapes) i no_items = []
    parts_said path (shape ∷ shapes) i (item d ds) = inside (entry_path path i) shape d ++ parts_said path shapes (suc i) ds

    -- of an array of so many
    abbrev pub array_said : List ℕ → List Shape → Bool → Option Items → List Said
    array_said path entries last_may_lack None = wrong path WrongKind
    array_said path entries last_may_lack (Some ds) = if fits entries last_may_lack (count_of ds) then parts_said path entries 0 ds else wrong path OutOfRange

    -- of a member, by its value
    abbrev pub member_said : List ℕ → Bool → Member → Result Data FieldFault → List Said
    member_said path is_whole m (Err fault) = lack_said (is_whole || m.is_needed) (member_path path m.name)
    member_said path is_whole m (Ok d) = inside (member_path path m.name) m.shape d

    -- of all members of a layout
    abbrev pub members_said : List ℕ → Bool → List Member → Data → List Said
    members_said path is_whole [] d = []
    members_said path is_whole (m ∷ ms) d = member_said path is_whole m (field_in m.name d) ++ members_said path is_whole ms d

    -- of an object
    abbrev pub object_said : List ℕ → Bool → List Member → Data → Option Members → List Said
    object_said path is_whole members d None = wrong path WrongKind
    object_said path is_whole members d (Some ds) = unread_said path members ds ++ members_said path is_whole members d

    -- of an object, by its kind
    abbrev pub kind_said : List ℕ → List ℕ → Data → Option Kind → List Said
    kind_said path by d None = wrong (member_path path by) UnknownForm
    kind_said path by d (Some kind) = inside path kind.shape d

    -- of an object, by the word of its kind
    abbrev pub word_kind_said : List ℕ → List ℕ → List Kind → Data → Result (List ℕ) FieldFault → List Said
    word_kind_said path by kinds d (Err fault) = wrong (member_path path by) WrongKind
    word_kind_said path by kinds d (Ok word) = kind_said path by d (find (λ (k : Kind). bytes_eq k.word word) kinds)

    -- of an object, by the member that has the word
    abbrev pub by_member_said : List ℕ → List ℕ → List Kind → Data → Result Data FieldFault → List Said
    by_member_said path by kinds d (Err fault) = wrong (member_path path by) Missing
    by_member_said path by kinds d (Ok word) = word_kind_said path by kinds d (text_in word)

    -- of an object of one of these kinds
    abbrev pub one_said : List ℕ → List ℕ → List Kind → Data → Option Members → List Said
    one_said path by kinds d None = wrong path WrongKind
    one_said path by kinds d (Some ds) = by_member_said path by kinds d (field_in by d)

    -- of a value of this layout
    abbrev pub layout_said : List ℕ → Data → Layout → List Said
    layout_said path d (Plain form) = fault_said path d (form_fault form d)
    layout_said path d (Word words) = word_said path words d (text_in d)
    layout_said path d (ListOf shape) = list_said path shape (as_array d)
    layout_said path d (Array entries last_may_lack) = array_said path entries last_may_lack (as_array d)
    layout_said path d (Object members) = object_said path false members d (as_object d)
    layout_said path d (Whole members) = object_said path true members d (as_object d)
    layout_said path d (OneOf by kinds) = one_said path by kinds d (as_object d)

-- of a value of this shape, as deep as this
abbrev pub said_in : ℕ → Bool → List ℕ → Shape → Data → List Said
said_in zero all path shape d = []
said_in (suc n) all path shape d = layout_said all (said_in n all) path d (layout_of shape)

-- deeper than any shape goes
unfoldable pub most_depth : ℕ
most_depth = 16

-- of a record
abbrev pub said_of : Bool → Data → List Said
said_of all d = said_in most_depth all [] shapes.Record d

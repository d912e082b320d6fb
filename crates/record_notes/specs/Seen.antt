-- Notes of the code as the definitions have them.
use Rattle.std.specs.Prelude.{◌≡◌, ℕ, zero, suc, List, [], ◌∷◌, ◌++◌, Bool, true, false, not, ◌&&◌, bytes_eq, map, if◌then◌else◌}
use Rattle.std.specs.List.{list_all, list_any}
use Rattle.serde_json.specs.Data.{Members, no_members, member}
use Rattle.record_notes.specs.declared.note.Note.{Note}
use Rattle.record_notes.specs.declared.note.Noted as code
use Rattle.record_notes.specs.declared.walk.Walk.{Walk}
use Rattle.record_shapes.specs.declared.shape.Member.{Member}
use Rattle.record_shapes.specs.declared.shape.Shape.{Shape}
use Rattle.record_notes.specs.Lines.{Noted}
use Rattle.record_notes.specs.Notes.{Said, is_read}
use Rattle.record_notes.specs.Paths.{member_path}
use Rattle.record_notes.specs.declared.note.What.TheVariants.{Unread}
use Rattle.record_shapes.specs.Layouts as layouts

-- a note
abbrev pub note_seen : Note → Said
note_seen n = (n.path.items, n.what)

-- what was read, with its notes
abbrev pub noted_seen : code.Noted → Noted
noted_seen n = record { reading = n.reading; said = map note_seen n.notes.items }

-- a walk is where it was, and has said this beside what it said before
pub record HasSaid (w w' : Walk) (said : List Said) : Type 0 where
  pub all : w'.all ≡ w.all
  pub path : w'.path.items ≡ w.path.items
  pub notes : map note_seen w'.notes.items ≡ map note_seen w.notes.items ++ said

-- the names of an object, in order
abbrev pub names_in : Members → List (List ℕ)
names_in no_members = []
names_in (member name d ds) = name ∷ names_in ds

-- a layout has a member of this name
abbrev pub has_name : List Member → List ℕ → Bool
has_name members name = list_any (λ (m : Member). bytes_eq m.name.now name) members

-- what there is to say of a name
abbrev pub name_said : List ℕ → List layouts.Member → List ℕ → List Said
name_said path members name = if is_read members name then [] else (member_path path name, Unread) ∷ []

-- of these names
abbrev pub names_said : List ℕ → List layouts.Member → List (List ℕ) → List Said
names_said path members [] = []
names_said path members (name ∷ names) = name_said path members name ++ names_said path members names

-- no value of a layout has members, where none of its entries has
abbrev pub has_no_members : (Shape → Bool) → layouts.Layout → Bool
has_no_members inside (layouts.Plain form) = true
has_no_members inside (layouts.Word words) = true
has_no_members inside (layouts.ListOf shape) = inside shape
has_no_members inside (layouts.Array entries last_may_lack) = list_all inside entries
has_no_members inside _ = false

-- no value of a shape has members, as deep as this
abbrev pub is_nameless_in : ℕ → Shape → Bool
is_nameless_in zero shape = false
is_nameless_in (suc n) shape = has_no_members (is_nameless_in n) (layouts.layout_of shape)

-- no value of a shape has members: arrays without any are no deeper than assets in outputs
abbrev pub is_nameless : Shape → Bool
is_nameless shape = is_nameless_in 5 shape

-- values of a shape have no members, and what is wrong with them is not asked for
abbrev pub is_quiet : Bool → Shape → Bool
is_quiet all shape = not all && is_nameless shape

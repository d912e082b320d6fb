-- Where each name is read there is nothing to say.
use Rattle.std.proofs.Common.{◌≡◌, ◌&&◌, Bool, true, false, ℕ, List, [], ◌∷◌, ◌++◌, ap, map, refl, sym, ◌∙◌, if◌then◌else◌}
use Rattle.std.specs.Borrow.{Bor}
use Rattle.std.specs.List.{list_all}
use Rattle.std.specs.Cmp.Lexicographic.{slice_cmp}
use Rattle.std.specs.Ordering.{match_ordering, nat_cmp}
use Rattle.std.specs.declared.cmp.Ordering.{Ordering}
use Rattle.std.specs.declared.cmp.Ordering.TheVariants as ord
use Rattle.json_tree.specs.View.{members_after, members_view, view}
use Rattle.json_tree.specs.declared.value.Value.{Value}
use Rattle.serde_json.specs.Data.{Data, Members, no_members, member, put}
use Rattle.record_shapes.specs.Layouts as layouts
use Rattle.record_shapes.specs.Seen.{member_seen}
use Rattle.record_shapes.specs.declared.shape.Member.{Member}
use Rattle.record_notes.specs.Notes.{Said, is_read, unread_said}
use Rattle.record_notes.specs.Paths.{member_path}
use Rattle.record_notes.specs.declared.note.What.TheVariants.{Unread}
use Rattle.record_notes.specs.Seen.{has_name, name_said, names_in, names_said}
use Rattle.record_notes.proofs.Mapped.{any-map}

pub is_read-seen : (members : List Member) (name : List ℕ) → is_read (map member_seen members) name ≡ has_name members name
is_read-seen members name = any-map member_seen _ members

module _ (members : List layouts.Member) where
  -- each name is read
  abbrev AllRead : Members → Type 0
  AllRead no_members = Unit {0}
  AllRead (member name d ds) = (is_read members name ≡ true) × AllRead ds

  with_one_more : (k : List ℕ) (d : Data) (ms : Members) → is_read members k ≡ true → AllRead ms → AllRead (put k d ms)
  with_one_more k d no_members known rest = (known, tt)
  with_one_more k d (member l e ms) known rest = by (slice_cmp nat_cmp k l) (with_one_more k d ms known rest.1) where
    by : (o : Ordering) → AllRead (put k d ms) → AllRead (match_ordering o (member k d (member l e ms)) (member l d ms) (member l e (put k d ms)))
    by ord.Less more = (known, rest)
    by ord.Equal more = (rest.0, rest.1)
    by ord.Greater more = (rest.0, more)

  pub both : (a b : Bool) → (a && b) ≡ true → (a ≡ true) × (b ≡ true)
  both true true e = (refl, refl)
  both true false e = absurd (cc)
  both false b e = absurd (cc)

  after : (found : Members) (es : List (Bor (List ℕ) × Data)) → AllRead found → list_all (λ (e : Bor (List ℕ) × Data). is_read members e.0.now) es ≡ true → AllRead (members_after found es)
  after found [] read e = read
  after found (x ∷ xs) read e =
      let parts = both (is_read members x.0.now) _ e in
      after (put x.0.now x.1 found) xs (with_one_more x.0.now x.1 found parts.0 read) parts.1

  nothing_unread : (all : Bool) (path : List ℕ) (ms : Members) → AllRead ms → unread_said all path members ms ≡ []
  nothing_unread all path no_members read = refl
  nothing_unread all path (member name d ds) read =
      ap (λ (b : Bool). (if b then [] else (member_path path name, Unread) ∷ []) ++ unread_said all path members ds) read.0 ∙ nothing_unread all path ds read.1

all_seen : (members : List Member) (fields : List (Bor (List ℕ) × Value)) → list_all (λ (f : Bor (List ℕ) × Value). has_name members f.0.now) fields ≡ true
    → list_all (λ (e : Bor (List ℕ) × Data). is_read (map member_seen members) e.0.now) (map (λ (f : Bor (List ℕ) × Value). (f.0, view f.1)) fields) ≡ true
all_seen members [] e = refl
all_seen members (f ∷ fs) e =
    let parts = both [] (has_name members f.0.now) _ e in
    ap (λ (b : Bool). b && list_all (λ (x : Bor (List ℕ) × Data). is_read (map member_seen members) x.0.now) (map (λ (g : Bor (List ℕ) × Value). (g.0, view g.1)) fs)) (is_read-seen members f.0.now ∙ parts.0)
    ∙ all_seen members fs parts.1

pub all_known : (members : List Member) (fields : List (Bor (List ℕ) × Value)) (all : Bool) (path : List ℕ) → list_all (λ (f : Bor (List ℕ) × Value). has_name members f.0.now) fields ≡ true
    → unread_said all path (map member_seen members) (members_view fields) ≡ []
all_known members fields all path e =
    nothing_unread (map member_seen members) all path (members_view fields) (after (map member_seen members) no_members (map (λ (f : Bor (List ℕ) × Value). (f.0, view f.1)) fields) tt (all_seen members fields e))

-- ---- name by name

pub by_names : (all : Bool) (path : List ℕ) (members : List layouts.Member) (ms : Members) → names_said path members (names_in ms) ≡ unread_said all path members ms
by_names all path members no_members = refl
by_names all path members (member name d ds) = ap (λ (l : List Said). name_said path members name ++ l) (by_names all path members ds)

-- of a name that is read, or not
pub name_looked : (path : List ℕ) (members : List Member) (name : List ℕ) (b : Bool) → b ≡ has_name members name
    → name_said path (map member_seen members) name ≡ (if b then [] else (member_path path name, Unread) ∷ [])
name_looked path members name b known =
    ap (λ (c : Bool). if c then [] else (member_path path name, Unread) ∷ []) (is_read-seen members name ∙ sym known)

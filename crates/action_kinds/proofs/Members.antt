-- The fields of an object, of which some are left out: their texts, and what is found at a name.
use Rattle.std.proofs.Common.{◌≡◌, ℕ, suc, Bool, true, false, ◌&&◌, not, List, [], ◌∷◌, ◌++◌, Option, Some, None, Result, Ok, bytes_eq, codes, flat_map, map, option_map, option_to_list, refl, ap, sym, ◌∙◌, subst, true≢false, if◌then◌else◌}
use Rattle.std.specs.declared.cmp.Ordering.TheVariants.{Less, Equal, Greater}
use Rattle.std.specs.Cmp.Lexicographic.{slice_cmp}
use Rattle.std.specs.Ordering.{match_ordering, nat_cmp}
use Rattle.std.proofs.lemmas.Bool.{and_from, and_parts, not-true, or_parts}
use Rattle.std.proofs.lemmas.Slice.Eq.{bytes_eq-Decides}
use Rattle.std.specs.List.{join_by, list_all, list_any}
use Rattle.serde_json.specs.Data.{Data, Members, member, no_members, object, put}
use Rattle.serde_json.specs.Find.{get_member}
use Rattle.serde_json.proofs.Views.{get_member-put, get_member-put_other}
use Rattle.maps.specs.Words.{none_or}
use Rattle.json_fields.specs.declared.fault.FieldFault.{FieldFault}
use Rattle.json_fields.specs.Entries.{maybe_in, needed_in}
use Rattle.json_fields.specs.Kinds.{present}
use Rattle.action_kinds.proofs.Trees.{SpellMembers, Spells, is_quiet, no_more_members, one_more_member, spelled_object}
use Rattle.action_read.specs.Params.{is_param_name, names_only_params}

-- a value that is printed, and read again
pub record Printed (deep : ℕ) {A : Type 0} (text : A → List ℕ) (reading : Data → Result A FieldFault) (x : A) : Type 0 where
  pub datum : Data
  pub spells : Spells deep (text x) datum
  pub there : present (Some datum) ≡ Ok datum
  pub reads : reading datum ≡ Ok x

-- each value of a form is
abbrev pub Prints : ℕ → {A : Type 0} → (A → Bool) → (A → List ℕ) → (Data → Result A FieldFault) → Type 0
Prints deep {A} form text reading = (x : A) → form x ≡ true → Printed deep text reading x

-- a text with its data
pub record Value (deep : ℕ) : Type 0 where
  pub text : List ℕ
  pub datum : Data
  pub spells : Spells deep text datum

abbrev value_of : {deep : ℕ} {A : Type 0} {text : A → List ℕ} {reading : Data → Result A FieldFault} {x : A} → Printed deep text reading x → Value deep
value_of {text = text} {x = x} p = record { text = text x; datum = p.datum; spells = p.spells }

-- a field with its name
abbrev named : List ℕ → List ℕ → List ℕ
named name t = (codes "\"" ++ name ++ codes "\"") ++ codes ":" ++ t

abbrev texts_by : {deep : ℕ} → List ℕ → Option (Value deep) → List (List ℕ)
texts_by name None = []
texts_by name (Some v) = named name v.text ∷ []

-- a field, which may be left out
pub record Entry (deep : ℕ) : Type 0 where
  pub name : List ℕ
  pub quiet : list_all is_quiet name ≡ true
  pub texts : List (List ℕ)
  pub value : Option (Value deep)
  pub same : texts ≡ texts_by name value

-- ---- entries of values

abbrev maybe_value : {deep : ℕ} {A : Type 0} {form : A → Bool} {text : A → List ℕ} {reading : Data → Result A FieldFault} → Prints deep form text reading → (o : Option A) → none_or form o ≡ true → Option (Value deep)
maybe_value prints None h = None
maybe_value prints (Some x) h = Some (value_of (prints x h))

abbrev maybe_texts : {A : Type 0} → List ℕ → (A → List ℕ) → Option A → List (List ℕ)
maybe_texts name text o = option_to_list (option_map (λ x. named name (text x)) o)

pub maybe_same : {deep : ℕ} {A : Type 0} {form : A → Bool} {text : A → List ℕ} {reading : Data → Result A FieldFault} (name : List ℕ) (prints : Prints deep form text reading) (o : Option A) (h : none_or form o ≡ true)
    → maybe_texts name text o ≡ texts_by name (maybe_value {form = form} {text = text} {reading = reading} prints o h)
maybe_same name prints None h = refl
maybe_same name prints (Some x) h = refl

-- a field that may be absent
abbrev pub maybe_entry : {deep : ℕ} {A : Type 0} {form : A → Bool} {text : A → List ℕ} {reading : Data → Result A FieldFault} (name : List ℕ) → list_all is_quiet name ≡ true → Prints deep form text reading → (o : Option A) → none_or form o ≡ true → Entry deep
maybe_entry {form = form} {text = text} {reading = reading} name quiet prints o h = record {
  name = name;
  quiet = quiet;
  texts = maybe_texts name text o;
  value = maybe_value {form = form} {text = text} {reading = reading} prints o h;
  same = maybe_same {form = form} {text = text} {reading = reading} name prints o h;
}

-- a field that is there
abbrev pub needed_entry : {deep : ℕ} {A : Type 0} {form : A → Bool} {text : A → List ℕ} {reading : Data → Result A FieldFault} (name : List ℕ) → list_all is_quiet name ≡ true → Prints deep form text reading → (x : A) → form x ≡ true → Entry deep
needed_entry {text = text} name quiet prints x h = record {
  name = name;
  quiet = quiet;
  texts = named name (text x) ∷ [];
  value = Some (value_of (prints x h));
  same = refl;
}

-- ---- all of them

abbrev put_value : {deep : ℕ} → List ℕ → Option (Value deep) → Members → Members
put_value name None ms = ms
put_value name (Some v) ms = put name v.datum ms

-- the members, put one after another
abbrev pub puts : {deep : ℕ} → List (Entry deep) → Members → Members
puts [] ms = ms
puts (e ∷ es) ms = puts es (put_value e.name e.value ms)

one_more : {deep : ℕ} (name : List ℕ) → list_all is_quiet name ≡ true → (value : Option (Value deep)) (es : List (Entry deep)) → SpellMembers deep (flat_map (λ e. e.texts) es) (puts es)
    → SpellMembers deep (texts_by name value ++ flat_map (λ e. e.texts) es) (λ ms. puts es (put_value name value ms))
one_more name quiet None es more = more
one_more {deep} name quiet (Some v) es more = one_more_member deep name v.text v.datum (flat_map (λ e. e.texts) es) (puts es) quiet v.spells more

all_printed : {deep : ℕ} (es : List (Entry deep)) → SpellMembers deep (flat_map (λ e. e.texts) es) (puts es)
all_printed {deep} [] = no_more_members deep
all_printed {deep} (e ∷ es) =
    subst (λ (ts : List (List ℕ)). SpellMembers deep (ts ++ flat_map (λ e. e.texts) es) (λ ms. puts es (put_value e.name e.value ms))) (sym e.same) (one_more e.name e.quiet e.value es (all_printed es))

-- an object of these fields
pub object_printed : {deep : ℕ} (es : List (Entry deep)) → Spells (suc deep) (codes "{" ++ join_by (λ t. t) (codes ",") (flat_map (λ e. e.texts) es) ++ codes "}") (object (puts es no_members))
object_printed {deep} es = spelled_object deep (flat_map (λ e. e.texts) es) (puts es) (all_printed es)

-- ---- what is found at a name

abbrev pub names_of : {deep : ℕ} → List (Entry deep) → List (List ℕ)
names_of es = map (λ e. e.name) es

-- no name is another
abbrev pub are_apart : List (List ℕ) → Bool
are_apart [] = true
are_apart (n ∷ ns) = not (list_any (bytes_eq n) ns) && are_apart ns

abbrev or_other : {deep : ℕ} → Option (Value deep) → Option Data → Option Data
or_other None o = o
or_other (Some v) o = Some v.datum

-- the value at a name, or another
abbrev pub at : {deep : ℕ} → List ℕ → List (Entry deep) → Option Data → Option Data
at k [] o = o
at k (e ∷ es) o = if bytes_eq k e.name then or_other e.value o else at k es o

same_name : (k n : List ℕ) → bytes_eq k n ≡ true → k ≡ n
same_name k n e = (bytes_eq-Decides k n).0 e

-- at a name that is none of these
at_none : {deep : ℕ} (k : List ℕ) (es : List (Entry deep)) (o : Option Data) → list_any (bytes_eq k) (names_of es) ≡ false → at k es o ≡ o
at_none k [] o h = refl
at_none k (e ∷ es) o h =
    let none = or_parts (bytes_eq k e.name) (list_any (bytes_eq k) (names_of es)) h in
    rw none.0 (at_none k es o none.1)

put_found : {deep : ℕ} (name : List ℕ) (value : Option (Value deep)) (ms : Members) → get_member name (put_value name value ms) ≡ or_other value (get_member name ms)
put_found name None ms = refl
put_found name (Some v) ms = get_member-put name v.datum ms

put_other : {deep : ℕ} (k name : List ℕ) (value : Option (Value deep)) (ms : Members) → (k ≡ name → ⊥) → get_member k (put_value name value ms) ≡ get_member k ms
put_other k name None ms other = refl
put_other k name (Some v) ms other = get_member-put_other k name v.datum ms other

found_by : {deep : ℕ} (k name : List ℕ) (value : Option (Value deep)) (es : List (Entry deep)) (ms : Members) (b : Bool) → bytes_eq k name ≡ b → not (list_any (bytes_eq name) (names_of es)) ≡ true
    → ((found : Members) → get_member k (puts es found) ≡ at k es (get_member k found))
    → get_member k (puts es (put_value name value ms)) ≡ (if b then or_other value (get_member k ms) else at k es (get_member k ms))
found_by k name value es ms true e once later =
    let same : name ≡ k = sym (same_name k name e) in
    let none : list_any (bytes_eq k) (names_of es) ≡ false = subst (λ (n : List ℕ). list_any (bytes_eq n) (names_of es) ≡ false) same (not-true (list_any (bytes_eq name) (names_of es)) once) in
    later (put_value name value ms)
    ∙ at_none k es (get_member k (put_value name value ms)) none
    ∙ subst (λ (n : List ℕ). get_member n (put_value name value ms) ≡ or_other value (get_member n ms)) same (put_found name value ms)
found_by k name value es ms false e once later =
    later (put_value name value ms)
    ∙ ap (at k es) (put_other k name value ms (λ s. absurd (true≢false (sym ((bytes_eq-Decides k name).1 s) ∙ e))))

pub found_at : {deep : ℕ} (k : List ℕ) (es : List (Entry deep)) (ms : Members) → are_apart (names_of es) ≡ true → get_member k (puts es ms) ≡ at k es (get_member k ms)
found_at k [] ms apart = refl
found_at k (e ∷ es) ms apart =
    let both = and_parts (not (list_any (bytes_eq e.name) (names_of es))) (are_apart (names_of es)) apart in
    found_by k e.name e.value es ms (bytes_eq k e.name) refl both.0 (λ found. found_at k es found both.1)

-- ---- what is read at a name

-- a field that may be absent is read as what it was printed from
pub maybe_read : {deep : ℕ} {A : Type 0} {form : A → Bool} {text : A → List ℕ} {reading : Data → Result A FieldFault} (name : List ℕ) (prints : Prints deep form text reading) (o : Option A) (h : none_or form o ≡ true) (ms : Members)
    → get_member name ms ≡ or_other (maybe_value {form = form} {text = text} {reading = reading} prints o h) None → maybe_in name reading (object ms) ≡ Ok o
maybe_read name prints None h ms e = rw e refl
maybe_read name prints (Some x) h ms e = let p = prints x h in rw (e, p.there, p.reads) refl

-- so is one that is there
pub needed_read : {deep : ℕ} {A : Type 0} {text : A → List ℕ} {reading : Data → Result A FieldFault} (name : List ℕ) (x : A) (p : Printed deep text reading x) (ms : Members)
    → get_member name ms ≡ Some p.datum → needed_in name reading (object ms) ≡ Ok x
needed_read name x p ms e = rw (e, p.there, p.reads) refl

-- ---- names of parameters alone

names_put : (name : List ℕ) (d : Data) (ms : Members) → is_param_name name ≡ true → names_only_params ms ≡ true → names_only_params (put name d ms) ≡ true
names_put name d no_members is only = and_from (is_param_name name) true is refl
names_put name d (member l e ms) is only =
    let both = and_parts (is_param_name l) (names_only_params ms) only in
    let later = names_put name d ms is both.1 in
    elim (slice_cmp nat_cmp name l) as (λ r. names_only_params (match_ordering r (member name d (member l e ms)) (member l d ms) (member l e (put name d ms))) ≡ true) [
      | Less ↦ and_from (is_param_name name) (is_param_name l && names_only_params ms) is only
      | Equal ↦ only
      | Greater ↦ and_from (is_param_name l) (names_only_params (put name d ms)) both.0 later
    ]

name_put : {deep : ℕ} (name : List ℕ) (value : Option (Value deep)) (ms : Members) → is_param_name name ≡ true → names_only_params ms ≡ true → names_only_params (put_value name value ms) ≡ true
name_put name None ms is only = only
name_put name (Some v) ms is only = names_put name v.datum ms is only

-- an object of fields with names of parameters names nothing else
pub only_params : {deep : ℕ} (es : List (Entry deep)) (ms : Members) → list_all is_param_name (names_of es) ≡ true → names_only_params ms ≡ true → names_only_params (puts es ms) ≡ true
only_params [] ms are only = only
only_params (e ∷ es) ms are only =
    let both = and_parts (is_param_name e.name) (list_all is_param_name (names_of es)) are in
    only_params es (put_value e.name e.value ms) both.1 (name_put e.name e.value ms both.0 only)

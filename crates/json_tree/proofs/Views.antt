-- A value, level by level, and what is found among members that come one after another.
use Rattle.std.proofs.Common.{◌≡◌, ℕ, List, [], ◌∷◌, ◌++◌, map, Bool, true, false, cond, Some, Vec, Bor, refl, sym, ap, ◌∙◌, true≢false, rules}
use Rattle.std.proofs.lemmas.List.{map-append}
use Rattle.std.proofs.lemmas.Slice.Eq.{bytes_eq-Decides}
use Rattle.std.specs.Str.{bytes_eq}
use Rattle.std.specs.declared.alloc.Global.{Global}
use Rattle.serde_json.specs.Data.{Data, array, object, Members, no_members, put}
use Rattle.serde_json.specs.Find.{get_member}
use Rattle.serde_json.proofs.Views.{get_member-put, get_member-put_other}
use Rattle.json_tree.specs.View.{view, items_view, members_view, members_after}
use Rattle.json_tree.specs.declared.value.Value.{Value, Array, Object, the_lemmas}

-- a member: its name, and its value
abbrev pub Entry : Type 0
Entry = Bor (List ℕ) × Value

pub view-Array : (v : Vec Value Global) → view (Array v) ≡ array (items_view v.items)
view-Array v = search (rules, the_lemmas)

pub view-Object : (v : Vec Entry Global) → view (Object v) ≡ object (members_view v.items)
view-Object v = search (rules, the_lemmas)

after_push : (found : Members) (ms : List (Bor (List ℕ) × Data)) (m : Bor (List ℕ) × Data) → members_after found (ms ++ m ∷ []) ≡ put m.0.now m.1 (members_after found ms)
after_push found [] m = refl
after_push found (n ∷ ns) m = after_push (put n.0.now n.1 found) ns m

-- one more member goes in behind the others
pub members_view-push : (es : List Entry) (e : Entry) → members_view (es ++ e ∷ []) ≡ put e.0.now (view e.1) (members_view es)
members_view-push es e =
    let seen : Entry → Bor (List ℕ) × Data = λ m. (m.0, view m.1) in
    ap (members_after no_members) (map-append seen es (e ∷ [])) ∙ after_push no_members (map seen es) (seen e)

found_by : (b : Bool) (k name : List ℕ) (d : Data) (ms : Members) → bytes_eq k name ≡ b → get_member name (put k d ms) ≡ cond b (Some d) (get_member name ms)
found_by true k name d ms e = ap (λ (n : List ℕ). get_member n (put k d ms)) (sym ((bytes_eq-Decides k name).0 e)) ∙ get_member-put k d ms
found_by false k name d ms e = get_member-put_other name k d ms (λ same. true≢false (sym ((bytes_eq-Decides k name).1 (sym same)) ∙ e))

-- it is the one of its name
pub get_member-push : (name : List ℕ) (es : List Entry) (e : Entry) → get_member name (members_view (es ++ e ∷ [])) ≡ cond (bytes_eq e.0.now name) (Some (view e.1)) (get_member name (members_view es))
get_member-push name es e = ap (get_member name) (members_view-push es e) ∙ found_by (bytes_eq e.0.now name) e.0.now name (view e.1) (members_view es) refl

-- so a member of that name is the last one
pub get_member-last : (name : List ℕ) (es : List Entry) (e : Entry) → name ≡ e.0.now → get_member name (members_view (es ++ e ∷ [])) ≡ Some (view e.1)
get_member-last name es e same = ap (get_member name) (members_view-push es e) ∙ found_by true e.0.now name (view e.1) (members_view es) ((bytes_eq-Decides e.0.now name).1 (sym same))

-- and one of another name changes nothing
pub get_member-other : (name : List ℕ) (es : List Entry) (e : Entry) → (name ≡ e.0.now → ⊥) → get_member name (members_view (es ++ e ∷ [])) ≡ get_member name (members_view es)
get_member-other name es e other = ap (get_member name) (members_view-push es e) ∙ get_member-put_other name e.0.now (view e.1) (members_view es) other

-- What `retain` leaves of a map where the closure writes the values too.
use Rattle.std.proofs.Common.{◌≡◌, Bool, true, cond, List, [], ◌∷◌, refl, ap, subst, ◌∙◌}
use Rattle.std.specs.Bool.{⊤}
use Rattle.std.specs.List.{AllByRecursion}
use Rattle.std.specs.Map.{values_of}
use Rattle.std.specs.Map.Calls.{RetainsPairs}
use Rattle.maps.specs.Maps.{each_value, entries_where}

-- of values that all meet C the closure, which stays as it was, leaves g's, and keeps those that pass
pub written_and_kept : {F K X : Type 0} (T : F → K → X → Bool → X → F → Type 0) (C : X → Type 0) (p : K → X → Bool) (g : K → X → X) (f : F)
    → ((k : K) (v : X) (b : Bool) (w : X) (f' : F) → T f k v b w f' → C v → (b ≡ p k w) × (w ≡ g k v) × (f' ≡ f))
    → (es kept : List (K × X)) → AllByRecursion C (values_of es) → RetainsPairs T f es kept → kept ≡ entries_where p (each_value g es)
written_and_kept T C p g f says [] kept a h = h
written_and_kept {F} {K} {X} T C p g f says (e ∷ es) kept a (b, w, f', rest, t, r, k) =
    let here = says e.0 e.1 b w f' t a.0 in
    let later : rest ≡ entries_where p (each_value g es) = written_and_kept T C p g f says es rest a.1 (subst (λ (h : F). RetainsPairs T h es rest) here.2 r) in
    let passes : b ≡ p e.0 (g e.0 e.1) = here.0 ∙ ap (p e.0) here.1 in
    k ∙ (λ i. cond (passes i) ((e.0, here.1 i) ∷ later i) (later i))

-- all pass
pub entries_where_all : {K X : Type 0} (es : List (K × X)) → entries_where (λ k v. true) es ≡ es
entries_where_all [] = refl
entries_where_all {K} {X} (e ∷ es) = ap (λ (l : List (K × X)). e ∷ l) (entries_where_all es)

all_values : {K X : Type 0} (es : List (K × X)) → AllByRecursion (λ v. ⊤) (values_of es)
all_values [] = tt
all_values (e ∷ es) = (tt, all_values es)

-- the same of all values
pub written_and_kept_all : {F K X : Type 0} (T : F → K → X → Bool → X → F → Type 0) (p : K → X → Bool) (g : K → X → X) (f : F)
    → ((k : K) (v : X) (b : Bool) (w : X) (f' : F) → T f k v b w f' → (b ≡ p k w) × (w ≡ g k v) × (f' ≡ f))
    → (es kept : List (K × X)) → RetainsPairs T f es kept → kept ≡ entries_where p (each_value g es)
written_and_kept_all {F} {K} {X} T p g f says es kept h = written_and_kept T (λ v. ⊤) p g f (λ k v b w f' t _. says k v b w f' t) es kept (all_values es) h

-- The values of keys that have one.
use Rattle.std.proofs.Common.{◌≡◌, Bool, true, false, cond, is_some, List, [], ◌∷◌, Option, Some, None, map, option_map, refl, ap, sym, ◌∙◌, subst}
use Rattle.std.specs.declared.cmp.Ordering.{Ordering}
use Rattle.std.specs.declared.cmp.Ordering.TheVariants.{Less}
use Rattle.std.specs.Cmp.{IsTotalOrder}
use Rattle.std.specs.FinMap.{IsAntisymmetric}
use Rattle.std.specs.List.{AllByRecursion, cons_option, list_all}
use Rattle.std.specs.List.Sorted.{IsStrictlySortedBy}
use Rattle.std.specs.Map.{keys_of}
use Rattle.std.specs.Ordering.{eq_by_cmp}
use Rattle.std.proofs.lemmas.Bool.{and_parts, false≢true}
use Rattle.std.proofs.lemmas.Option.{none-some, same_Some}
use Rattle.maps.specs.Maps.{IsMap, has_key, value_at}
use Rattle.maps.proofs.Lookups.{none_below}
use Rattle.maps.proofs.Ties.{all_tied, is_equal, same_key}
use Rattle.shown_lists.specs.Only.{IsOnly}
use Rattle.shown_lists.specs.Present.{present_entries}

-- what is found if a test passes
pub only_if : {A B : Type 0} (is_kind : A → Type 0) (shows : A → B) (y : B) (v : A) (b : Bool) → (b ≡ true → is_kind v × (shows v ≡ y)) → ((x : A) → is_kind x → shows x ≡ y → (v ≡ x) × (b ≡ true)) → IsOnly is_kind shows y (cond b (Some v) None)
only_if {A} is_kind shows y v true is same = record {
  kind = λ x e. subst is_kind (same_Some v x e) (is refl).0;
  some = λ x e. ap shows (sym (same_Some v x e)) ∙ (is refl).1;
  all = λ x k e. ap Some (same x k e).0;
}
only_if is_kind shows y v false is same = record {
  kind = λ x e. absurd (none-some x e);
  some = λ x e. absurd (none-some x e);
  all = λ x k e. absurd (false≢true (same x k e).1);
}

-- nothing is found, for no item shows it
pub only_none : {A B : Type 0} (is_kind : A → Type 0) (shows : A → B) (y : B) → ((x : A) → is_kind x → shows x ≡ y → ⊥) → IsOnly is_kind shows y None
only_none is_kind shows y never = record { kind = λ x e. absurd (none-some x e); some = λ x e. absurd (none-some x e); all = λ x k e. absurd (never x k e) }

module _ {K X Y : Type 0} (cmp : K → K → Ordering) (g : K → Option X) where
  -- each key with its value, if it has one
  abbrev pub each_shown : List (K × Y) → List (K × Option X)
  each_shown ms = map (λ m. (m.0, g m.0)) ms

  all_present : (P : K → Type 0) (ms : List (K × Y)) → AllByRecursion P (keys_of ms) → AllByRecursion P (keys_of (present_entries (each_shown ms)))
  all_present P [] h = tt
  all_present P (m ∷ ms) h = elim (g m.0) as (λ o. AllByRecursion P (keys_of (cons_option (option_map (λ x. (m.0, x)) o) (present_entries (each_shown ms))))) [
    | None ↦ all_present P ms h.1
    | Some x ↦ (h.0, all_present P ms h.1)
  ]

  pub present_map : (ms : List (K × Y)) → IsMap cmp ms → IsMap cmp (present_entries (each_shown ms))
  unfolding IsStrictlySortedBy
  present_map [] h = tt
  present_map (m ∷ ms) h = elim (g m.0) as (λ o. IsMap cmp (cons_option (option_map (λ x. (m.0, x)) o) (present_entries (each_shown ms)))) [
    | None ↦ present_map ms h.1
    | Some x ↦ (all_present (λ q. cmp m.0 q ≡ Less) ms h.0, present_map ms h.1)
  ]

  module _ (o : IsTotalOrder cmp) (exact : IsAntisymmetric cmp) where
    pub value_at-shown : (ms : List (K × Y)) (q : K) → IsMap cmp ms → value_at cmp (present_entries (each_shown ms)) q ≡ cond (has_key cmp ms q) (g q) None
    unfolding IsStrictlySortedBy
    value_at-shown [] q h = refl
    value_at-shown (m ∷ ms) q h =
        let rest : List (K × X) = present_entries (each_shown ms) in
        let later : value_at cmp rest q ≡ cond (has_key cmp ms q) (g q) None = value_at-shown ms q h.1 in
        elim (eq_by_cmp cmp q m.0) as (λ b. eq_by_cmp cmp q m.0 ≡ b → value_at cmp (cons_option (option_map (λ x. (m.0, x)) (g m.0)) rest) q ≡ cond (is_some (cond b (Some m.1) (value_at cmp ms q))) (g q) None) [
          | true ↦ λ t.
              let same : q ≡ m.0 = same_key exact q m.0 t in
              let none : value_at cmp rest q ≡ None = later ∙ ap (λ (v : Option Y). cond (is_some v) (g q) None) (none_below cmp q ms (all_tied o q m.0 (keys_of ms) (is_equal _ t) h.0)) in
              elim (g m.0) as (λ v. g m.0 ≡ v → value_at cmp (cons_option (option_map (λ x. (m.0, x)) v) rest) q ≡ g q) [
                | None ↦ λ e. none ∙ sym e ∙ ap g (sym same)
                | Some x ↦ λ e. ap (λ b. cond b (Some x) (value_at cmp rest q)) t ∙ sym e ∙ ap g (sym same)
              ] refl
          | false ↦ λ t. elim (g m.0) as (λ v. value_at cmp (cons_option (option_map (λ x. (m.0, x)) v) rest) q ≡ cond (has_key cmp ms q) (g q) None) [
            | None ↦ later
            | Some x ↦ ap (λ b. cond b (Some x) (value_at cmp rest q)) t ∙ later
          ]
        ] refl

-- a key that none of these has
pub missing : {K X Y : Type 0} {cmp : K → K → Ordering} (exact : IsAntisymmetric cmp) (ms : List (K × Y)) (es : List (K × X)) (q : K) → list_all (λ e. has_key cmp ms e.0) es ≡ true → has_key cmp ms q ≡ false → value_at cmp es q ≡ None
missing exact ms [] q all absent = refl
missing {K} {X} {Y} {cmp} exact ms (e ∷ es) q all absent =
    let parts = and_parts (has_key cmp ms e.0) (list_all (λ x. has_key cmp ms x.0) es) all in
    elim (eq_by_cmp cmp q e.0) as (λ b. eq_by_cmp cmp q e.0 ≡ b → cond b (Some e.1) (value_at cmp es q) ≡ None) [
      | true ↦ λ t. let here : has_key cmp ms q ≡ true = ap (λ k. has_key cmp ms k) (same_key exact q e.0 t) ∙ parts.0 in absurd (false≢true (sym absent ∙ here))
      | false ↦ λ t. missing exact ms es q parts.1 absent
    ] refl

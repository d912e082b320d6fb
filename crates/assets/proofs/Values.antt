-- What holds of each value of a map, whatever changes.
use Rattle.std.proofs.Common.{◌≡◌, ℕ, List, [], ◌∷◌, true, false, cond, Option, Some, None, unwrap_or, sym, subst, ◌∙◌}
use Rattle.std.specs.declared.cmp.Ordering.{Ordering}
use Rattle.std.specs.declared.cmp.Ordering.TheVariants.{Less, Equal, Greater}
use Rattle.std.specs.Ordering.{eq_by_cmp, match_ordering}
use Rattle.std.specs.List.{AllByRecursion}
use Rattle.std.specs.Option.{SomeIff}
use Rattle.gov_ids.specs.of_maps.Maps.{value_at, with_value, without_key}

module _ {K X : Type 0} (cmp : K → K → Ordering) (P : X → Type 0) where
  pub all-with_value : (k : K) (v : X) (es : List (K × X)) → P v → AllByRecursion (λ e. P e.1) es → AllByRecursion (λ e. P e.1) (with_value cmp k v es)
  all-with_value k v [] p h = (p, tt)
  all-with_value k v (e ∷ es) p h =
      elim (cmp k e.0) as (λ r. AllByRecursion (λ e. P e.1) (match_ordering r ((k, v) ∷ e ∷ es) ((e.0, v) ∷ es) (e ∷ with_value cmp k v es))) [
        | Less ↦ (p, h)
        | Equal ↦ (p, h.1)
        | Greater ↦ (h.0, all-with_value k v es p h.1)
      ]

  pub all-without_key : (k : K) (es : List (K × X)) → AllByRecursion (λ e. P e.1) es → AllByRecursion (λ e. P e.1) (without_key cmp k es)
  all-without_key k [] h = tt
  all-without_key k (e ∷ es) h =
      elim (eq_by_cmp cmp k e.0) as (λ b. AllByRecursion (λ e. P e.1) (cond b es (e ∷ without_key cmp k es))) [
        | true ↦ h.1
        | false ↦ (h.0, all-without_key k es h.1)
      ]

  pub all-at : (k : K) (v : X) (es : List (K × X)) → AllByRecursion (λ e. P e.1) es → value_at cmp es k ≡ Some v → P v
  all-at k v [] h m = cc
  all-at k v (e ∷ es) h m =
      elim (eq_by_cmp cmp k e.0) as (λ b. cond b (Some e.1) (value_at cmp es k) ≡ Some v → P v) [
        | true ↦ λ m. let same : e.1 ≡ v = cc in subst P same h.0
        | false ↦ λ m. all-at k v es h.1 m
      ] m

  -- and of what stands for none
  pub all-at_or : (k : K) (d : X) (es : List (K × X)) → AllByRecursion (λ e. P e.1) es → P d → P (unwrap_or (value_at cmp es k) d)
  all-at_or k d [] h p = p
  all-at_or k d (e ∷ es) h p =
      elim (eq_by_cmp cmp k e.0) as (λ b. P (unwrap_or (cond b (Some e.1) (value_at cmp es k)) d)) [
        | true ↦ h.0
        | false ↦ all-at_or k d es h.1 p
      ]

pub all-weaker : {K X : Type 0} (P Q : X → Type 0) (es : List (K × X)) → ((x : X) → P x → Q x) → AllByRecursion (λ e. P e.1) es → AllByRecursion (λ e. Q e.1) es
all-weaker P Q [] w h = tt
all-weaker P Q (e ∷ es) w h = (w e.1 h.0, all-weaker P Q es w h.1)

-- a sum that is given is within its type
pub given_is : (o : Option ℕ) (P : Type 0) (v w : ℕ) → SomeIff o P v → o ≡ Some w → P × (w ≡ v)
given_is None P v w h e = cc
given_is (Some x) P v w h e = let same : x ≡ w = cc in (h.0, sym same ∙ h.1)

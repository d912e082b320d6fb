-- A walk from entry to entry goes over all of them.
use Rattle.std.proofs.Common.{Bor, ◌≡◌, ◌<◌, List, [], ◌∷◌, ◌++◌, true, false, cond, flat_map, length, map, not, Option, Some, None, option_map, refl, ap, sym, ◌∙◌, arith}
use Rattle.std.specs.declared.cmp.Ordering.{Ordering}
use Rattle.std.specs.declared.cmp.Ordering.TheVariants.{Less}
use Rattle.std.specs.Cmp.{IsTotalOrder}
use Rattle.std.specs.List.{AllByRecursion}
use Rattle.std.specs.List.Sorted.{IsStrictlySortedBy}
use Rattle.std.specs.Map.{keys_of}
use Rattle.std.specs.Option.{IfSome}
use Rattle.std.specs.Ordering.{is_eq, is_lt, ordering_reverse}
use Rattle.std.proofs.lemmas.Cmp.{tied_itself}
use Rattle.std.proofs.lemmas.List.Concat.{flat_map_single}
use Rattle.gov_actions.specs.declared.state.Committee.{Committee}
use Rattle.gov_actions.specs.declared.state.HotState.{HotState}
use Rattle.gov_ids.specs.declared.Credential.{Credential}
use Rattle.gov_ids.specs.Orders.{credential_cmp}
use Rattle.gov_model.specs.Hot.{is_member}
use Rattle.maps.proofs.Ties.{is_equal, is_less}
use Rattle.maps.specs.Maps.{IsMap, comes_past, entry_after}
use Rattle.state_print.specs.Walks.{entry_then}
use Rattle.text_model.specs.StateLines.{hot_outside, hot_words}
use Rattle.text_model.specs.Words.{Text}
use Rattle.view_map.specs.Walk.{entries_past}

module _ {K : Type 0} {cmp : K → K → Ordering} (o : IsTotalOrder cmp) where
  itself : (k : K) → is_lt (cmp k k) ≡ false
  itself k = ap is_lt (is_equal _ (ap is_eq (tied_itself o k)))

  -- what is below a key does not come past it
  below : (k q : K) → cmp q k ≡ Less → is_lt (cmp k q) ≡ false
  below k q l = ap is_lt (o.antisymm k q ∙ ap ordering_reverse l)

  -- past a key that comes past another, each key above comes past both
  past_both : (after : Option K) (k q : K) → comes_past cmp after k ≡ true → cmp k q ≡ Less → comes_past cmp (Some k) q ≡ comes_past cmp after q
  past_both None k q a l = ap is_lt l
  past_both (Some x) k q a l = ap is_lt l ∙ sym (ap is_lt (o.trans x k q (is_less _ a) l))

module _ {K X : Type 0} {cmp : K → K → Ordering} (o : IsTotalOrder cmp) where
  -- what holds of all keys holds of the next
  of_next : (P : K → Type 0) (after : Option K) (es : List (K × X)) → AllByRecursion P (keys_of es) → IfSome (entry_after cmp after es) (λ e. P e.0)
  of_next P after [] h = tt
  of_next P after (e ∷ es) h =
      elim (comes_past cmp after e.0) as (λ b. IfSome (cond b (Some e) (entry_after cmp after es)) (λ e. P e.0)) [ true ↦ h.0 | false ↦ of_next P after es h.1 ]

  -- past a key that comes past another, where all is above it
  same_past : (after : Option K) (k : K) (es : List (K × X)) → comes_past cmp after k ≡ true → AllByRecursion (λ q. cmp k q ≡ Less) (keys_of es) → entries_past cmp after es ≡ entries_past cmp (Some k) es
  same_past after k [] a h = refl
  same_past after k (e ∷ es) a h = λ i. cond (sym (past_both o after k e.0 a h.0) i) (e ∷ same_past after k es a h.1 i) (same_past after k es a h.1 i)

  -- past the first entry come the others
  past_first : (after : Option K) (e : K × X) (es : List (K × X)) → comes_past cmp after e.0 ≡ true → AllByRecursion (λ q. cmp e.0 q ≡ Less) (keys_of es) → entries_past cmp after es ≡ entries_past cmp (Some e.0) (e ∷ es)
  past_first after e es a h = same_past after e.0 es a h ∙ sym (ap (λ b. cond b (e ∷ entries_past cmp (Some e.0) es) (entries_past cmp (Some e.0) es)) (itself o e.0))

  -- an entry below the one that was found is not past it
  passed : (e : K × X) (es : List (K × X)) (r : Option (K × X)) → IfSome r (λ q. cmp e.0 q.0 ≡ Less) → entry_then (λ k. entries_past cmp k es) r ≡ entry_then (λ k. entries_past cmp k (e ∷ es)) r
  passed e es None h = refl
  passed e es (Some q) h = ap (λ (l : List (K × X)). q ∷ l) (sym (ap (λ b. cond b (e ∷ entries_past cmp (Some q.0) es) (entries_past cmp (Some q.0) es)) (below o q.0 e.0 h)))

  -- the entries past a key are the next one and those past it
  pub walked : (after : Option K) (es : List (K × X)) → IsMap cmp es → entries_past cmp after es ≡ entry_then (λ k. entries_past cmp k es) (entry_after cmp after es)
  unfolding IsStrictlySortedBy
  walked after [] h = refl
  walked after (e ∷ es) h =
      elim (comes_past cmp after e.0) as (λ b. comes_past cmp after e.0 ≡ b → cond b (e ∷ entries_past cmp after es) (entries_past cmp after es) ≡ entry_then (λ k. entries_past cmp k (e ∷ es)) (cond b (Some e) (entry_after cmp after es))) [
        | true ↦ λ a. ap (λ (l : List (K × X)). e ∷ l) (past_first after e es a h.0)
        | false ↦ λ a. walked after es h.1 ∙ passed e es (entry_after cmp after es) (of_next (λ q. cmp e.0 q ≡ Less) after es h.0)
      ] refl

module _ {K X : Type 0} (cmp : K → K → Ordering) where
  -- past no key come all
  pub all_past : (es : List (K × X)) → entries_past cmp None es ≡ es
  all_past [] = refl
  all_past (e ∷ es) = ap (λ (l : List (K × X)). e ∷ l) (all_past es)

  -- one line an entry
  pub singles : (f : K × X → List Text) (es : List (K × X)) → flat_map (λ e. f e ∷ []) (entries_past cmp None es) ≡ map f es
  singles f es = ap (λ (l : List (K × X)). flat_map (λ e. f e ∷ []) l) (all_past es) ∙ flat_map_single f es

  -- lines of each entry
  pub several : (f : K × X → List (List Text)) (es : List (K × X)) → flat_map f (entries_past cmp None es) ≡ flat_map f es
  several f es = ap (λ (l : List (K × X)). flat_map f l) (all_past es)

-- the lines of the keys that are no members
abbrev other_lines : Option Committee → Credential × HotState → List (List Text)
other_lines committee e = cond (is_member committee e.0) [] (hot_words e ∷ [])

others_of : (committee : Option Committee) (es : List (Credential × HotState)) → flat_map (other_lines committee) es ≡ map hot_words (hot_outside committee es)
others_of committee [] = refl
others_of committee (e ∷ es) =
    elim (is_member committee e.0) as (λ b. cond b [] (hot_words e ∷ []) ++ flat_map (other_lines committee) es ≡ map hot_words (cond (not b) (e ∷ hot_outside committee es) (hot_outside committee es))) [
      | true ↦ others_of committee es
      | false ↦ ap (λ (l : List (List Text)). hot_words e ∷ l) (others_of committee es)
    ]

pub others : (committee : Option Committee) (es : List (Credential × HotState)) → flat_map (other_lines committee) (entries_past credential_cmp None es) ≡ map hot_words (hot_outside committee es)
others committee es = several credential_cmp (other_lines committee) es ∙ others_of committee es

-- ---- one step of a walk

module _ {K X : Type 0} (past : Option K → List (K × X)) where
  -- an entry was found past the last key
  pub found : (after : Option (Bor K)) (last : Option K) (r : Option (K × X)) (e : K × X) → option_map (λ k. k.now) after ≡ last → r ≡ Some e
      → past (option_map (λ k. k.now) after) ≡ entry_then past r → past last ≡ e ∷ past (Some e.0)
  found after last r e same is step = sym (ap past same) ∙ step ∙ ap (λ (o : Option (K × X)). entry_then past o) is

  -- none was found
  pub found_none : (after : Option (Bor K)) (last : Option K) (r : Option (K × X)) → option_map (λ k. k.now) after ≡ last → r ≡ None
      → past (option_map (λ k. k.now) after) ≡ entry_then past r → past last ≡ []
  found_none after last r same is step = sym (ap past same) ∙ step ∙ ap (λ (o : Option (K × X)). entry_then past o) is

  -- fewer are left
  pub fewer : (last : Option K) (e : K × X) → past last ≡ e ∷ past (Some e.0) → length (past (Some e.0)) < length (past last)
  fewer last e is = omega (arith, ap (λ (l : List (K × X)). length l) is)

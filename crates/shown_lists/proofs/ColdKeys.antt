-- What cold keys authorized, by what lines of members and of others show.
use Rattle.std.proofs.Common.{◌≡◌, ℕ, ◌||◌, not, Bool, true, false, cond, is_some, List, [], ◌∷◌, Option, Some, None, map, refl, ap, sym, ◌∙◌}
use Rattle.std.specs.List.Sorted.{IsStrictlySortedBy}
use Rattle.std.specs.Map.{keys_of}
use Rattle.std.specs.Option.{option_or}
use Rattle.std.specs.Ordering.{eq_by_cmp}
use Rattle.std.proofs.lemmas.Cmp.{eq_by_cmp_equiv}
use Rattle.std.proofs.lemmas.Map.Entries.{option_filter}
use Rattle.std.proofs.lemmas.Map.Keys.{IsDistinct-from_sorted}
use Rattle.gov_actions.specs.declared.state.HotState.{HotState}
use Rattle.gov_ids.specs.declared.Credential.{Credential}
use Rattle.gov_ids.specs.Orders.{credential_cmp}
use Rattle.gov_ids.proofs.Exacts.{credential_exact}
use Rattle.gov_ids.proofs.Totals.{credential_total}
use Rattle.maps.specs.Maps.{IsMap, has_key, value_at, with_values}
use Rattle.maps.proofs.Kept.{IsMap-entries_where, IsMap-with_values}
use Rattle.maps.proofs.Lookups.{value_at-entries_where}
use Rattle.maps.proofs.Same.{map_from_value_at}
use Rattle.maps.proofs.Several.{value_at-with_values_distinct}
use Rattle.resume_checks.proofs.Ordered.{rising_from_set, set_from_rising}
use Rattle.text_forms.specs.Ids.{is_map}
use Rattle.shown_lists.specs.Only.{IsOnly}
use Rattle.shown_lists.specs.Present.{present_entries}
use Rattle.shown_lists.specs.Shows.{MemberRow, hot_of_all, hot_of_members, hot_shown, is_of, members_shown, others_shown, row_shown}
use Rattle.shown_lists.proofs.Present.{each_shown, only_if, only_none, present_map, value_at-shown}

is_of_key : (ms : List (Credential × ℕ)) (q : Credential) → is_of ms q ≡ has_key credential_cmp ms q
is_of_key [] q = refl
is_of_key (m ∷ ms) q =
    ap (λ b. b || is_of ms q) ((eq_by_cmp_equiv credential_total).symm m.0 q)
    ∙ elim (eq_by_cmp credential_cmp q m.0) as (λ b. (b || is_of ms q) ≡ is_some (cond b (Some m.1) (value_at credential_cmp ms q))) [ true ↦ refl | false ↦ is_of_key ms q ]

chosen : {X : Type 0} (b : Bool) (v : Option X) → option_or (cond b v None) (option_or (option_filter (λ x. not b) v) None) ≡ v
chosen true None = refl
chosen true (Some x) = refl
chosen false None = refl
chosen false (Some x) = refl

pub hot_of_all-map : (rows : List MemberRow) (others : List (Credential × HotState)) → IsMap credential_cmp (hot_of_all rows others)
unfolding IsStrictlySortedBy
hot_of_all-map rows others = IsMap-with_values credential_total (hot_of_members rows) (with_values credential_cmp others []) (IsMap-with_values credential_total others [] tt)

module _ (ms : List (Credential × ℕ)) (hot : List (Credential × HotState)) (members : IsMap credential_cmp ms) (ordered : IsMap credential_cmp hot) where
  abbrev authorized : Credential → Option HotState
  authorized k = value_at credential_cmp hot k

  rows_are : (xs : List (Credential × ℕ)) → map (λ (r : MemberRow). (r.0.0, r.1)) (members_shown xs hot) ≡ each_shown credential_cmp authorized xs
  rows_are [] = refl
  rows_are (x ∷ xs) = ap (λ (t : List (Credential × Option HotState)). (x.0, authorized x.0) ∷ t) (rows_are xs)

  abbrev other : Credential → HotState → Bool
  other k x = not (is_of ms k)

  others_map : IsMap credential_cmp (others_shown ms hot)
  others_map = IsMap-entries_where credential_cmp other hot ordered

  at_key : (q : Credential) → value_at credential_cmp (with_values credential_cmp (present_entries (each_shown credential_cmp authorized ms)) (with_values credential_cmp (others_shown ms hot) [])) q ≡ value_at credential_cmp hot q
  at_key q =
      let of_members = present_entries (each_shown credential_cmp authorized ms) in
      value_at-with_values_distinct credential_total of_members (with_values credential_cmp (others_shown ms hot) []) q (IsDistinct-from_sorted credential_cmp (keys_of of_members) (present_map credential_cmp authorized ms members))
      ∙ ap (λ (v : Option HotState). option_or (value_at credential_cmp of_members q) v) (value_at-with_values_distinct credential_total (others_shown ms hot) [] q (IsDistinct-from_sorted credential_cmp (keys_of (others_shown ms hot)) others_map))
      ∙ ap (λ (v : Option HotState). option_or v (option_or (value_at credential_cmp (others_shown ms hot) q) None)) (value_at-shown credential_cmp authorized credential_total credential_exact ms q members)
      ∙ ap (λ (v : Option HotState). option_or (cond (has_key credential_cmp ms q) (authorized q) None) (option_or v None)) (value_at-entries_where credential_total credential_exact other hot q ordered)
      ∙ ap (λ b. option_or (cond (has_key credential_cmp ms q) (authorized q) None) (option_or (option_filter (λ x. not b) (authorized q)) None)) (is_of_key ms q)
      ∙ chosen (has_key credential_cmp ms q) (authorized q)

  -- what cold keys authorized is what the lines of members and of others show
  pub hot_back : hot_of_all (members_shown ms hot) (others_shown ms hot) ≡ hot
  hot_back =
      map_from_value_at credential_total credential_exact (hot_of_all (members_shown ms hot) (others_shown ms hot)) hot (hot_of_all-map (members_shown ms hot) (others_shown ms hot)) ordered
      (λ q. ap (λ (es : List (Credential × Option HotState)). value_at credential_cmp (with_values credential_cmp (present_entries es) (with_values credential_cmp (others_shown ms hot) [])) q) (rows_are ms) ∙ at_key q)

-- ---- what is found

pub all_ordered : (rows : List MemberRow) (others : List (Credential × HotState)) → is_map credential_cmp (hot_of_all rows others) ≡ true
all_ordered rows others = rising_from_set credential_cmp (keys_of (hot_of_all rows others)) (hot_of_all-map rows others)

module _ (ms : List (Credential × ℕ)) (rows : List MemberRow) (others : List (Credential × HotState)) (ordered : is_map credential_cmp ms ≡ true) (of_rows : map (λ (r : MemberRow). r.0) rows ≡ ms) (hot : List (Credential × HotState)) (is : hot ≡ hot_of_all rows others) where
  abbrev Found : List (Credential × HotState) → Type 0
  Found x = is_map credential_cmp x ≡ true

  members_by_rows : (rs : List MemberRow) (x : List (Credential × HotState)) → members_shown (map (λ (r : MemberRow). r.0) rs) x ≡ map (row_shown x) rs
  members_by_rows [] x = refl
  members_by_rows (r ∷ rs) x = ap (λ (t : List MemberRow). row_shown x r ∷ t) (members_by_rows rs x)

  by_rows : (x : List (Credential × HotState)) → members_shown ms x ≡ map (row_shown x) rows
  by_rows x = ap (λ (l : List (Credential × ℕ)). members_shown l x) (sym of_rows) ∙ members_by_rows rows x

  hot_ordered : Found hot
  hot_ordered = ap (is_map credential_cmp) is ∙ all_ordered rows others

  same_hot : (x : List (Credential × HotState)) → Found x → hot_shown ms x ≡ (rows, others) → hot ≡ x
  same_hot x k e =
      is ∙ ap (λ (y : List MemberRow × List (Credential × HotState)). hot_of_all y.0 y.1) (sym e)
      ∙ hot_back ms x (set_from_rising credential_cmp (keys_of ms) ordered) (set_from_rising credential_cmp (keys_of x) k)

  pub hot_some : map (row_shown hot) rows ≡ rows → others_shown ms hot ≡ others → IsOnly Found (hot_shown ms) (rows, others) (Some hot)
  hot_some members rest =
      let shown : hot_shown ms hot ≡ (rows, others) = λ i. ((by_rows hot ∙ members) i, rest i) in
      only_if Found (hot_shown ms) (rows, others) hot true (λ t. (hot_ordered, shown)) (λ x k e. (same_hot x k e, refl))

  pub hot_none : (map (row_shown hot) rows ≡ rows → others_shown ms hot ≡ others → ⊥) → IsOnly Found (hot_shown ms) (rows, others) None
  hot_none never =
      only_none Found (hot_shown ms) (rows, others)
      (λ x k e.
      let there : hot_shown ms hot ≡ (rows, others) = ap (hot_shown ms) (same_hot x k e) ∙ e in
      never (sym (by_rows hot) ∙ ap (λ (y : List MemberRow × List (Credential × HotState)). y.0) there) (ap (λ (y : List MemberRow × List (Credential × HotState)). y.1) there))

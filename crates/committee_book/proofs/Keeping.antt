-- The cold keys of each hot key after those that are no members are taken away one by one.
use Rattle.std.proofs.Common.{◌≡◌, List, [], ◌∷◌, true, false, cond, fold, Option, refl, ap, ◌∙◌}
use Rattle.std.specs.declared.cmp.Ordering.TheVariants.{Less}
use Rattle.std.specs.List.{AllByRecursion}
use Rattle.std.specs.List.Sorted.{IsStrictlySortedBy}
use Rattle.std.specs.Map.{keys_of}
use Rattle.std.specs.Ordering.{is_eq, ordering_reverse}
use Rattle.std.proofs.lemmas.Cmp.{eq_by_cmp_equiv}
use Rattle.gov_ids.specs.declared.Credential.{Credential}
use Rattle.gov_ids.specs.Orders.{credential_cmp}
use Rattle.gov_ids.specs.Same.{same_credential}
use Rattle.gov_ids.proofs.Totals.{credential_total}
use Rattle.gov_actions.specs.declared.state.Committee.{Committee}
use Rattle.gov_actions.specs.declared.state.HotState.{HotState}
use Rattle.gov_model.specs.Hot.{is_hot_key, is_member, of_members}
use Rattle.maps.specs.Maps.{IsMap, entries_where, without_member}
use Rattle.committee_book.specs.Holders.{holders_of}
use Rattle.committee_book.proofs.Holding.{Hots}

module _ (committee : Option Committee) (h : Credential) where
  -- these cold keys without that of an entry, if it is this hot key and no member's
  abbrev pub without_other : List Credential → Credential × HotState → List Credential
  without_other ks e = cond (is_member committee e.0) ks (cond (is_hot_key h e.1) (without_member credential_cmp e.0 ks) ks)

  -- without those of each entry
  abbrev pub without_others : Hots → List Credential → List Credential
  without_others hot ks = fold without_other ks hot

  below : (k q : Credential) → credential_cmp k q ≡ Less → same_credential q k ≡ false
  below k q e = ap is_eq (credential_total.antisymm q k ∙ ap ordering_reverse e)

  first_stays : (k : Credential) (ks : List Credential) (e : Credential × HotState) → credential_cmp k e.0 ≡ Less → without_other (k ∷ ks) e ≡ k ∷ without_other ks e
  first_stays k ks e less =
      elim (is_member committee e.0) as (λ m. cond m (k ∷ ks) (cond (is_hot_key h e.1) (without_member credential_cmp e.0 (k ∷ ks)) (k ∷ ks)) ≡ k ∷ cond m ks (cond (is_hot_key h e.1) (without_member credential_cmp e.0 ks) ks)) [
        | true ↦ refl
        | false ↦ elim (is_hot_key h e.1) as (λ b. cond b (without_member credential_cmp e.0 (k ∷ ks)) (k ∷ ks) ≡ k ∷ cond b (without_member credential_cmp e.0 ks) ks) [
          | true ↦ ap (λ b. cond b ks (k ∷ without_member credential_cmp e.0 ks)) (below k e.0 less)
          | false ↦ refl
        ]
      ]

  -- a cold key below those of the entries stays
  stays : (k : Credential) (ks : List Credential) (hot : Hots) → AllByRecursion (λ q. credential_cmp k q ≡ Less) (keys_of hot) → without_others hot (k ∷ ks) ≡ k ∷ without_others hot ks
  stays k ks [] a = refl
  stays k ks (e ∷ hot) a = ap (λ (l : List Credential). without_others hot l) (first_stays k ks e a.0) ∙ stays k (without_other ks e) hot a.1

  -- without the others of all are those of members
  pub members_kept : (hot : Hots) → IsMap credential_cmp hot → without_others hot (holders_of hot h) ≡ holders_of (of_members committee hot) h
  unfolding IsStrictlySortedBy
  members_kept [] m = refl
  members_kept (e ∷ hot) m =
      let rest = entries_where (λ cold s. is_hot_key h s) hot in
      let members = of_members committee hot in
      let kept = entries_where (λ cold s. is_hot_key h s) members in
      let ks = holders_of (e ∷ hot) h in
      let later : without_others hot (keys_of rest) ≡ keys_of kept = members_kept hot m.1 in
      elim (is_member committee e.0) as (λ i. without_others hot (cond i ks (cond (is_hot_key h e.1) (without_member credential_cmp e.0 ks) ks)) ≡ holders_of (cond i (e ∷ members) members) h) [
        | true ↦ elim (is_hot_key h e.1) as (λ b. without_others hot (keys_of (cond b (e ∷ rest) rest)) ≡ keys_of (cond b (e ∷ kept) kept)) [
          | true ↦ stays e.0 (keys_of rest) hot m.0 ∙ ap (λ (l : List Credential). e.0 ∷ l) later
          | false ↦ later
        ]
        | false ↦ elim (is_hot_key h e.1) as (λ b. without_others hot (cond b (without_member credential_cmp e.0 (keys_of (cond b (e ∷ rest) rest))) (keys_of (cond b (e ∷ rest) rest))) ≡ keys_of kept) [
          | true ↦ ap (λ b. without_others hot (cond b (keys_of rest) (e.0 ∷ without_member credential_cmp e.0 (keys_of rest)))) ((eq_by_cmp_equiv credential_total).refl e.0) ∙ later
          | false ↦ later
        ]
      ]

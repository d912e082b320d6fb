-- The reward accounts that lines of pools show.
use Rattle.std.proofs.Common.{◌≡◌, ℕ, true, false, cond, List, Option, Some, None, refl, ap, sym, ◌∙◌}
use Rattle.std.specs.List.{list_all}
use Rattle.std.specs.Map.{keys_of}
use Rattle.std.proofs.lemmas.Bool.{and_parts}
use Rattle.gov_ids.specs.declared.Account.{Account}
use Rattle.gov_ids.specs.declared.PoolId.{PoolId}
use Rattle.gov_ids.specs.Orders.{pool_cmp}
use Rattle.gov_ids.proofs.Exacts.{pool_exact}
use Rattle.gov_ids.proofs.Totals.{pool_total}
use Rattle.maps.specs.Maps.{IsMap, has_key, value_at}
use Rattle.maps.proofs.Same.{map_from_value_at}
use Rattle.resume_checks.specs.Forms.{are_accounts_of}
use Rattle.resume_checks.proofs.Ordered.{set_from_rising}
use Rattle.text_forms.specs.Ids.{is_map}
use Rattle.shown_lists.specs.Present.{present_entries}
use Rattle.shown_lists.specs.Shows.{pools_shown}
use Rattle.shown_lists.specs.Only.{IsOnly}
use Rattle.shown_lists.proofs.Present.{missing, only_if, only_none, present_map, value_at-shown}

module _ (mark : List (PoolId × ℕ)) (accounts : List (PoolId × Account)) (ordered : is_map pool_cmp mark ≡ true) (of_mark : are_accounts_of mark accounts ≡ true) where
  map_of_mark : IsMap pool_cmp mark
  map_of_mark = set_from_rising pool_cmp (keys_of mark) ordered

  parts : (is_map pool_cmp accounts ≡ true) × (list_all (λ (p : PoolId × Account). has_key pool_cmp mark p.0) accounts ≡ true)
  parts = and_parts (is_map pool_cmp accounts) (list_all (λ (p : PoolId × Account). has_key pool_cmp mark p.0) accounts) of_mark

  at_key : (q : PoolId) → value_at pool_cmp accounts q ≡ cond (has_key pool_cmp mark q) (value_at pool_cmp accounts q) None
  at_key q = elim (has_key pool_cmp mark q) as (λ b. has_key pool_cmp mark q ≡ b → value_at pool_cmp accounts q ≡ cond b (value_at pool_cmp accounts q) None) [
    | true ↦ λ t. refl
    | false ↦ λ t. missing pool_exact mark accounts q parts.1 t
  ] refl

  -- the accounts of pools of mark are those that their lines show
  pub accounts_back : present_entries (pools_shown mark accounts) ≡ accounts
  accounts_back =
      map_from_value_at pool_total pool_exact (present_entries (pools_shown mark accounts)) accounts (present_map pool_cmp (λ k. value_at pool_cmp accounts k) mark map_of_mark) (set_from_rising pool_cmp (keys_of accounts) parts.0)
      (λ q. value_at-shown pool_cmp (λ k. value_at pool_cmp accounts k) pool_total pool_exact mark q map_of_mark ∙ sym (at_key q))

-- ---- what is found

module _ (mark : List (PoolId × ℕ)) (pools : List (PoolId × Option Account)) (ordered : is_map pool_cmp mark ≡ true) (accounts : List (PoolId × Account)) (is : accounts ≡ present_entries pools) where
  same_accounts : (x : List (PoolId × Account)) → are_accounts_of mark x ≡ true → pools_shown mark x ≡ pools → accounts ≡ x
  same_accounts x k e = is ∙ ap present_entries (sym e) ∙ accounts_back mark x ordered k

  abbrev Only : Option (List (PoolId × Account)) → Type 0
  Only r = IsOnly (λ (x : List (PoolId × Account)). are_accounts_of mark x ≡ true) (pools_shown mark) pools r

  pub accounts_some : are_accounts_of mark accounts ≡ true → pools_shown mark accounts ≡ pools → Only (Some accounts)
  accounts_some k shown =
      only_if (λ (x : List (PoolId × Account)). are_accounts_of mark x ≡ true) (pools_shown mark) pools accounts true (λ t. (k, shown)) (λ x k e. (same_accounts x k e, refl))

  pub accounts_none : (are_accounts_of mark accounts ≡ true → pools_shown mark accounts ≡ pools → ⊥) → Only None
  accounts_none never =
      only_none (λ (x : List (PoolId × Account)). are_accounts_of mark x ≡ true) (pools_shown mark) pools
      (λ x k e.
      let same : accounts ≡ x = same_accounts x k e in
      never (ap (are_accounts_of mark) same ∙ k) (ap (pools_shown mark) same ∙ e))

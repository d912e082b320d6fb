-- What a ledger has at names that changes do not touch.
use Rattle.std.proofs.Common.{◌≡◌, ℕ, List, [], ◌∷◌, Bool, true, false, cond, not, ◌&&◌, ◌||◌, fold, Option, Some, None, is_some, option_map, refl, ap, ◌∙◌}
use Rattle.std.specs.declared.cmp.Ordering.{Ordering}
use Rattle.std.specs.Ordering.{eq_by_cmp}
use Rattle.std.specs.Cmp.{IsTotalOrder}
use Rattle.std.specs.Map.{keys_of}
use Rattle.std.proofs.lemmas.Cmp.{eq_by_cmp_equiv}
use Rattle.std.proofs.lemmas.Map.Entries.{option_filter}
use Rattle.gov_ids.specs.declared.Credential.{Credential}
use Rattle.gov_ids.specs.Orders.{credential_cmp}
use Rattle.gov_ids.proofs.Exacts.{credential_exact, voter_exact}
use Rattle.gov_ids.proofs.Totals.{credential_total, pool_total, voter_total}
use Rattle.book_records.specs.declared.DrepState.{DrepState}
use Rattle.book_records.specs.declared.Registered.{Registered}
use Rattle.book_records.specs.Dormancy.{extended, is_kept_active}
use Rattle.book_records.specs.Delegations.{without_drep}
use Rattle.maps.proofs.Kept.{IsMap-changed_where}
use Rattle.maps.proofs.Lookups.{value_at-changed_where, value_at-entries_where}
use Rattle.maps.proofs.Several.{value_at-with_values_other}
use Rattle.maps.specs.Maps.{IsMap, has_key, has_member, value_at}
use Rattle.maps.specs.Replaced.{with_option}
use Rattle.maps.specs.Words.{some_and}
use Rattle.ledger_books.specs.of_proposal_store.Leaving.{is_drep_among}
use Rattle.stake_book.specs.Stakes.{delegates_to_dreps, without_dreps}
use Rattle.draft_changes.specs.Changed.{dormant_by, dreps_by}
use Rattle.draft_changes.specs.Names.{LaidOverChangesNames, LeavingKeepsOtherVotes}
use Rattle.maps.proofs.Replaced.{IsMap-with_option, value_at-with_option}

neither : (a b : Bool) → (a || b) ≡ false → (a ≡ false) × (b ≡ false)
neither true b h = cc
neither false b h = (refl, h)

module _ {K X : Type 0} {cmp : K → K → Ordering} (o : IsTotalOrder cmp) where
  -- a key that is not among the changes keeps its value
  value_at-with_options_other : (changes : List (K × Option X)) (es : List (K × X)) (q : K) → IsMap cmp es → has_member cmp (keys_of changes) q ≡ false
      → value_at cmp (fold (λ fs p. with_option cmp p.0 p.1 fs) es changes) q ≡ value_at cmp es q
  value_at-with_options_other [] es q h named = refl
  value_at-with_options_other (e ∷ changes) es q h named =
      let parts = neither (eq_by_cmp cmp q e.0) (has_member cmp (keys_of changes) q) named in
      value_at-with_options_other changes (with_option cmp e.0 e.1 es) q (IsMap-with_option o e.0 e.1 es h) parts.1
      ∙ value_at-with_option o e.0 e.1 es q h
      ∙ ap (λ b. cond b e.1 (value_at cmp es q)) ((eq_by_cmp_equiv o).symm e.0 q ∙ parts.0)

-- what does not pass stays
unchanged : {X : Type 0} (p : X → Bool) (f : X → X) (o : Option X) → some_and p o ≡ false → option_map (λ x. cond (p x) (f x) x) o ≡ o
unchanged p f None h = refl
unchanged p f (Some x) h = ap (λ b. Some (cond b (f x) x)) h

-- nothing stays nothing
nothing_made : {X : Type 0} (f : X → X) (o : Option X) → is_some o ≡ false → option_map f o ≡ o
nothing_made f None h = refl
nothing_made f (Some x) h = cc

-- what is not dropped stays
not_dropped : {X : Type 0} (b : Bool) (o : Option X) → b ≡ false → option_filter (λ x. not b) o ≡ o
not_dropped b None h = refl
not_dropped b (Some x) h = ap (λ c. cond (not c) (Some x) None) h

-- an account that delegates to none of these stays
undelegated_stays : (left : List Credential) (accounts : List (Credential × Registered)) (c : Credential) → some_and (delegates_to_dreps left) (value_at credential_cmp accounts c) ≡ false
    → value_at credential_cmp (without_dreps left accounts) c ≡ value_at credential_cmp accounts c
undelegated_stays left accounts c h =
    value_at-changed_where credential_total credential_exact (λ q r. delegates_to_dreps left r) without_drep accounts c
    ∙ unchanged (delegates_to_dreps left) without_drep (value_at credential_cmp accounts c) h

module _ (epoch dormant : ℕ) (dreps : List (Credential × DrepState)) where
  -- the dormant epochs add no DRep
  unregistered_stays : (refreshed : Bool) (c : Credential) → (refreshed && has_key credential_cmp dreps c) ≡ false → value_at credential_cmp (dreps_by refreshed epoch dormant dreps) c ≡ value_at credential_cmp dreps c
  unregistered_stays false c h = refl
  unregistered_stays true c h =
      value_at-changed_where credential_total credential_exact (λ q d. is_kept_active epoch dormant d) (extended dormant) dreps c
      ∙ nothing_made (λ (d : DrepState). cond (is_kept_active epoch dormant d) (extended dormant d) d) (value_at credential_cmp dreps c) h

  IsMap-dreps_by : (refreshed : Bool) → IsMap credential_cmp dreps → IsMap credential_cmp (dreps_by refreshed epoch dormant dreps)
  IsMap-dreps_by false h = h
  IsMap-dreps_by true h = IsMap-changed_where credential_cmp (λ q d. is_kept_active epoch dormant d) (extended dormant) dreps h

pub laid_over_changes_names : LaidOverChangesNames
laid_over_changes_names changes l accounts dreps = record {
  accounts = λ c named undelegated.
      value_at-with_options_other credential_total changes.accounts (without_dreps changes.left l.accounts) c
      (IsMap-changed_where credential_cmp (λ q r. delegates_to_dreps changes.left r) without_drep l.accounts accounts) named
      ∙ undelegated_stays changes.left l.accounts c undelegated;
  pools = λ p named. value_at-with_values_other pool_total changes.pools l.pools p named;
  dreps = λ c named unregistered.
      value_at-with_options_other credential_total changes.dreps (dreps_by changes.refreshed l.epoch l.dormant l.dreps) c
      (IsMap-dreps_by l.epoch l.dormant l.dreps changes.refreshed dreps) named
      ∙ unregistered_stays l.epoch l.dormant l.dreps changes.refreshed c unregistered;
  dormant = λ h. ap (λ b. dormant_by b l.dormant) h;
  hot = λ c named. value_at-with_values_other credential_total changes.hot l.hot c named;
  proposals = refl;
  others = refl;
}

pub leaving_keeps_other_votes : LeavingKeepsOtherVotes
leaving_keeps_other_votes left p in_order v other =
    value_at-entries_where voter_total voter_exact (λ u x. not (is_drep_among left u)) p.votes v in_order
    ∙ not_dropped (is_drep_among left v) _ other

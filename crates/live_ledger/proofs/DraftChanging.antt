-- The ledger of a draft after each change of the draft.
use Rattle.std.proofs.Common.{◌≡◌, ℕ, ◌+◌, ◌<◌, ◌^◌, List, [], Bool, true, false, cond, Option, Some, None, option_map, unwrap_or, refl, ap, sym, ◌∙◌, arith}
use Rattle.std.specs.Option.{ForSome}
use Rattle.maps.proofs.Kept.{IsMap-changed_where, IsMap-each_value}
use Rattle.maps.proofs.Lookups.{value_at-changed_where, value_at-each_value}
use Rattle.maps.proofs.Same.{map_from_value_at}
use Rattle.maps.specs.Replaced.{with_option}
use Rattle.maps.specs.Maps.{IsMap, changed_where, each_value, value_at, with_key, with_value}
use Rattle.gov_ids.specs.declared.Credential.{Credential}
use Rattle.gov_ids.specs.declared.PoolId.{PoolId}
use Rattle.gov_ids.specs.Orders.{credential_cmp}
use Rattle.gov_ids.proofs.Exacts.{credential_exact}
use Rattle.gov_ids.proofs.Totals.{credential_total}
use Rattle.gov_actions.specs.declared.state.HotState.{HotState}
use Rattle.book_records.specs.declared.DrepState.{DrepState}
use Rattle.book_records.specs.declared.Registered.{Registered}
use Rattle.book_records.specs.declared.pool.Pool.{Pool}
use Rattle.book_records.specs.Dormancy.{extended, is_kept_active, with_dormant_added}
use Rattle.drep_book.proofs.NoneAdded.{none_added}
use Rattle.book_records.specs.Delegations.{delegates_to_drep, without_drep}
use Rattle.ledger_model.specs.Changes.{dormant_added}
use Rattle.ledger_model.specs.Ledger.{Ledger, account_at}
use Rattle.dormant_laws.proofs.Dormant.{all_from_found}
use Rattle.dormant_laws.specs.of_run_model.Laws.{IsWithinDormantBound}
use Rattle.stake_book.specs.Stakes.{delegates_to_dreps, without_dreps}
use Rattle.draft_changes.specs.ChangedAccounts.{ChangedAccounts, ended, with_leaving}
use Rattle.draft_changes.specs.ChangedAccounts as changed_accounts
use Rattle.draft_changes.specs.ChangedDreps.{AllAddable, ChangedDreps, awakened, with_refresh}
use Rattle.draft_changes.specs.ChangedDreps as changed_dreps
use Rattle.draft_changes.specs.ChangedParts.{changed_of}
use Rattle.draft_changes.specs.Changed.{dormant_by, dreps_by, laid_over, with_dreps, with_registered, with_registrations}
use Rattle.live_ledger.specs.Drafts.{having_drep}
use Rattle.live_ledger.specs.Kept.{IsLiveLedger}
use Rattle.draft_changes.proofs.AccountChanging.{ended_more}
use Rattle.draft_changes.proofs.Awaking.{dreps_by_map}
use Rattle.draft_changes.proofs.Ending.{no_delegation_ended}
use Rattle.live_ledger.proofs.Cleared.{cleared_after, cleared_none}
use Rattle.live_ledger.proofs.Timely.{nothing_added}
use Rattle.draft_changes.proofs.Laid.{IsMap-with_options, value_at-with_options, with_options-with_value, with_values-with_value}

-- a change of each value changes the current one
either_changed : {X : Type 0} (g : X → X) (o : Option (Option X)) (before after : Option X) → after ≡ option_map g before
    → unwrap_or (option_map (λ (to : Option X). option_map g to) o) after ≡ option_map g (unwrap_or o before)
either_changed g None before after e = e
either_changed g (Some to) before after e = refl

-- ---- a DRep that leaves

all_ended : (c : Credential) (left : List Credential) (o : Option Registered)
    → option_map (λ (r : Registered). cond (delegates_to_dreps (with_key credential_cmp c left) r) (without_drep r) r) o
    ≡ option_map (ended c) (option_map (λ (r : Registered). cond (delegates_to_dreps left r) (without_drep r) r) o)
all_ended c left None = refl
all_ended c left (Some r) = ap Some (ended_more c left r)

module _ (c : Credential) (changes : List (Credential × Option Registered)) (left : List Credential) (accounts : List (Credential × Registered))
    (g : IsMap credential_cmp changes) (h : IsMap credential_cmp accounts) where
  abbrev ends : Credential → Option Registered → Option Registered
  ends q to = option_map (ended c) to

  base : (dreps : List Credential) → IsMap credential_cmp (without_dreps dreps accounts)
  base dreps = IsMap-changed_where credential_cmp (λ q r. delegates_to_dreps dreps r) without_drep accounts h

  ended_at : (q : Credential)
      → value_at credential_cmp (with_registrations (each_value ends changes) (without_dreps (with_key credential_cmp c left) accounts)) q
      ≡ option_map (ended c) (value_at credential_cmp (with_registrations changes (without_dreps left accounts)) q)
  ended_at q =
      value_at-with_options credential_total (each_value ends changes) (without_dreps (with_key credential_cmp c left) accounts) q (IsMap-each_value credential_cmp ends changes g) (base (with_key credential_cmp c left))
      ∙ (λ i. unwrap_or (value_at-each_value credential_total credential_exact ends changes q i)
      (value_at-changed_where credential_total credential_exact (λ q r. delegates_to_dreps (with_key credential_cmp c left) r) without_drep accounts q i))
      ∙ either_changed (ended c) (value_at credential_cmp changes q) _ _ (all_ended c left (value_at credential_cmp accounts q))
      ∙ ap (λ (o : Option Registered). option_map (ended c) (unwrap_or (value_at credential_cmp changes q) o))
      (sym (value_at-changed_where credential_total credential_exact (λ q r. delegates_to_dreps left r) without_drep accounts q))
      ∙ ap (λ (o : Option Registered). option_map (ended c) o) (sym (value_at-with_options credential_total changes (without_dreps left accounts) q g (base left)))

  -- no delegation to it is left
  pub accounts_left : with_registrations (each_value ends changes) (without_dreps (with_key credential_cmp c left) accounts)
      ≡ changed_where (λ q r. delegates_to_drep c r) without_drep (with_registrations changes (without_dreps left accounts))
  accounts_left =
      let before : IsMap credential_cmp (with_registrations changes (without_dreps left accounts)) = IsMap-with_options credential_total changes (without_dreps left accounts) (base left) in
      map_from_value_at credential_total credential_exact _ _
      (IsMap-with_options credential_total (each_value ends changes) (without_dreps (with_key credential_cmp c left) accounts) (base (with_key credential_cmp c left)))
      (IsMap-changed_where credential_cmp (λ q r. delegates_to_drep c r) without_drep (with_registrations changes (without_dreps left accounts)) before)
      (λ q. ended_at q ∙ sym (value_at-changed_where credential_total credential_exact (λ q r. delegates_to_drep c r) without_drep (with_registrations changes (without_dreps left accounts)) q))

-- ---- the dormant epochs that are added

added_at : (epoch n : ℕ) (changes : List (Credential × Option DrepState)) (dreps : List (Credential × DrepState)) → IsMap credential_cmp changes → IsMap credential_cmp dreps → (q : Credential)
    → value_at credential_cmp (with_dreps (each_value (λ q to. option_map (awakened epoch n) to) changes) (with_dormant_added epoch n dreps)) q
    ≡ option_map (awakened epoch n) (value_at credential_cmp (with_dreps changes dreps) q)
added_at epoch n changes dreps g h q =
    value_at-with_options credential_total (each_value (λ q to. option_map (awakened epoch n) to) changes) (with_dormant_added epoch n dreps) q
    (IsMap-each_value credential_cmp (λ q to. option_map (awakened epoch n) to) changes g) (IsMap-changed_where credential_cmp (λ c d. is_kept_active epoch n d) (extended n) dreps h)
    ∙ ap (λ (o : Option (Option DrepState)). unwrap_or o (value_at credential_cmp (with_dormant_added epoch n dreps) q))
    (value_at-each_value credential_total credential_exact (λ q to. option_map (awakened epoch n) to) changes q)
    ∙ either_changed (awakened epoch n) (value_at credential_cmp changes q) (value_at credential_cmp dreps q) _
    (value_at-changed_where credential_total credential_exact (λ c d. is_kept_active epoch n d) (extended n) dreps q)
    ∙ ap (λ (o : Option DrepState). option_map (awakened epoch n) o) (sym (value_at-with_options credential_total changes dreps q g h))

pub dreps_added : (epoch n : ℕ) (changes : List (Credential × Option DrepState)) (dreps : List (Credential × DrepState)) → IsMap credential_cmp changes → IsMap credential_cmp dreps
    → with_dreps (each_value (λ q to. option_map (awakened epoch n) to) changes) (with_dormant_added epoch n dreps) ≡ with_dormant_added epoch n (with_dreps changes dreps)
dreps_added epoch n changes dreps g h =
    let before : IsMap credential_cmp (with_dreps changes dreps) = IsMap-with_options credential_total changes dreps h in
    map_from_value_at credential_total credential_exact _ _
    (IsMap-with_options credential_total (each_value (λ q to. option_map (awakened epoch n) to) changes) (with_dormant_added epoch n dreps) (IsMap-changed_where credential_cmp (λ c d. is_kept_active epoch n d) (extended n) dreps h))
    (IsMap-changed_where credential_cmp (λ c d. is_kept_active epoch n d) (extended n) (with_dreps changes dreps) before)
    (λ q. added_at epoch n changes dreps g h q
    ∙ sym (value_at-changed_where credential_total credential_exact (λ c d. is_kept_active epoch n d) (extended n) (with_dreps changes dreps) q))

-- ---- the ledger of a draft

-- these changes of DReps, with the dormant epochs added, if they are not yet
abbrev refreshed_by : Bool → ℕ → ℕ → List (Credential × Option DrepState) → ChangedDreps
refreshed_by b epoch n dreps = with_refresh epoch n (record { dreps = dreps; refreshed = b })

module _ (start : Ledger) (kept : IsLiveLedger start) (a : ChangedAccounts) (pools : List (PoolId × Pool)) (d : ChangedDreps) (hot : List (Credential × HotState)) where
  abbrev pub now : Ledger
  now = laid_over (changed_of a pools d hot) start

  -- the DReps and the accounts over which the changes are laid
  abbrev dreps_before : List (Credential × DrepState)
  dreps_before = dreps_by d.refreshed start.epoch start.dormant start.dreps

  dreps_before_map : IsMap credential_cmp dreps_before
  dreps_before_map = dreps_by_map d.refreshed start.epoch start.dormant start.dreps kept.sound.dreps

  abbrev accounts_before : List (Credential × Registered)
  accounts_before = without_dreps a.left start.accounts

  accounts_before_map : IsMap credential_cmp accounts_before
  accounts_before_map = IsMap-changed_where credential_cmp (λ q r. delegates_to_dreps a.left r) without_drep start.accounts kept.sound.accounts

  pub accounts_are_map : IsMap credential_cmp now.accounts
  accounts_are_map = IsMap-with_options credential_total a.accounts accounts_before accounts_before_map

  pub dreps_are_map : IsMap credential_cmp now.dreps
  dreps_are_map = IsMap-with_options credential_total d.dreps dreps_before dreps_before_map

  pub account_laid : (c : Credential) (to : Option Registered) → IsMap credential_cmp a.accounts
      → laid_over (changed_of (changed_accounts.with_change c to a) pools d hot) start ≡ record now { accounts = with_registered c to now.accounts }
  account_laid c to m = λ i. record now { accounts = with_options-with_value credential_total credential_exact c to a.accounts accounts_before m accounts_before_map i }

  pub drep_laid : (c : Credential) (to : Option DrepState) → IsMap credential_cmp d.dreps
      → laid_over (changed_of a pools (changed_dreps.with_change c to d) hot) start ≡ record now { dreps = with_option credential_cmp c to now.dreps }
  drep_laid c to m = λ i. record now { dreps = with_options-with_value credential_total credential_exact c to d.dreps dreps_before m dreps_before_map i }

  pub leaving_laid : (c : Credential) → IsMap credential_cmp a.accounts → IsMap credential_cmp d.dreps
      → laid_over (changed_of (with_leaving c a) pools (changed_dreps.with_change c None d) hot) start ≡ having_drep c None now
  leaving_laid c m n =
      λ i. record now {
        accounts = accounts_left c a.accounts a.left start.accounts m kept.sound.accounts i;
        dreps = with_options-with_value credential_total credential_exact c None d.dreps dreps_before n dreps_before_map i;
        proposals = cleared_after c a.left start.proposals kept.voted i;
      }

  pub hot_laid : (cold : Credential) (s : HotState) → IsMap credential_cmp hot
      → laid_over (changed_of a pools d (with_value credential_cmp cold s hot)) start ≡ record now { hot = with_value credential_cmp cold s now.hot }
  hot_laid cold s m = λ i. record now { hot = with_values-with_value credential_total credential_exact cold s hot start.hot m kept.sound.hot i }

  pub refreshed_map : IsMap credential_cmp d.dreps → IsMap credential_cmp (with_refresh start.epoch start.dormant d).dreps
  refreshed_map m =
      elim d.refreshed as (λ b. IsMap credential_cmp (refreshed_by b start.epoch start.dormant d.dreps).dreps) [
        | true ↦ m
        | false ↦ IsMap-each_value credential_cmp (λ q to. option_map (awakened start.epoch start.dormant) to) d.dreps m
      ]

  -- the dormant epochs are added, if they are not yet
  pub refresh_laid : IsMap credential_cmp d.dreps → laid_over (changed_of a pools (with_refresh start.epoch start.dormant d) hot) start ≡ dormant_added now
  refresh_laid m =
      elim d.refreshed as (λ b. laid_over (changed_of a pools (refreshed_by b start.epoch start.dormant d.dreps) hot) start ≡ dormant_added (laid_over (changed_of a pools (record { dreps = d.dreps; refreshed = b }) hot) start)) [
        | true ↦ sym (nothing_added (laid_over (changed_of a pools (record { dreps = d.dreps; refreshed = true }) hot) start) refl)
        | false ↦ λ i. record now { dormant = 0; dreps = dreps_added start.epoch start.dormant d.dreps start.dreps m kept.sound.dreps i }
      ]

  -- the registration of a credential is the one that was changed, or the one before, without a delegation that ended
  pub account_now : (q : Credential) → IsMap credential_cmp a.accounts
      → account_at now q ≡ unwrap_or (value_at credential_cmp a.accounts q) (option_map (λ (r : Registered). cond (delegates_to_dreps a.left r) (without_drep r) r) (account_at start q))
  account_now q m =
      value_at-with_options credential_total a.accounts accounts_before q m accounts_before_map
      ∙ ap (λ (o : Option Registered). unwrap_or (value_at credential_cmp a.accounts q) o)
      (value_at-changed_where credential_total credential_exact (λ q r. delegates_to_dreps a.left r) without_drep start.accounts q)

  -- each changed expiry with the dormant epochs is a number of 64 bits
  pub addable : IsMap credential_cmp d.dreps → IsWithinDormantBound now → AllAddable (dormant_by d.refreshed start.dormant) d.dreps
  addable m b =
      all_from_found (λ (to : Option DrepState). ForSome to (λ (s : DrepState). s.expiry + dormant_by d.refreshed start.dormant < 2 ^ 64)) d.dreps m
      (λ q to here s is.
      let standing : value_at credential_cmp now.dreps q ≡ Some s =
      value_at-with_options credential_total d.dreps dreps_before q m dreps_before_map ∙ ap (λ (o : Option (Option DrepState)). unwrap_or o (value_at credential_cmp dreps_before q)) (here ∙ ap Some is) in
      omega (arith, b.expiries q s standing, kept.early))

-- ---- nothing is changed

awake : (refreshed : Bool) (n : ℕ) → (refreshed ≡ true → n ≡ 0) → dormant_by refreshed n ≡ n
awake true n h = sym (h refl)
awake false n h = refl

none_awakened : (refreshed : Bool) (epoch n : ℕ) (dreps : List (Credential × DrepState)) → (refreshed ≡ true → n ≡ 0) → dreps_by refreshed epoch n dreps ≡ dreps
none_awakened true epoch n dreps h = ap (λ m. with_dormant_added epoch m dreps) (h refl) ∙ none_added epoch dreps
none_awakened false epoch n dreps h = refl

-- a draft that begins is the ledger
pub nothing_laid : (start : Ledger) (refreshed : Bool) → (refreshed ≡ true → start.dormant ≡ 0)
    → laid_over (changed_of changed_accounts.none_changed [] (record { dreps = []; refreshed = refreshed }) []) start ≡ start
nothing_laid start refreshed h = λ i. record start {
  dormant = awake refreshed start.dormant h i;
  accounts = no_delegation_ended start.accounts i;
  dreps = none_awakened refreshed start.epoch start.dormant start.dreps h i;
  proposals = cleared_none start.proposals i;
}

-- What is frozen of kept books are their live entries, their DReps and the deposits of their proposals; these can be counted, and the pools are those that are frozen.
use Rattle.std.proofs.Common.{◌≡◌, ℕ, ◌+◌, ◌^◌, ◌<◌, ◌≤◌, List, [], ◌∷◌, cond, true, false, Option, Some, None, filter_map, is_some, map, option_map, unwrap_or, refl, ap, sym, ◌∙◌, arith}
use Rattle.std.specs.Ordering.{eq_by_cmp}
use Rattle.std.specs.List.{cons_option}
use Rattle.gov_ids.specs.declared.Account.{Account}
use Rattle.book_records.specs.declared.pool.Pool.{Pool}
use Rattle.gov_ids.specs.declared.Credential.{Credential}
use Rattle.gov_ids.specs.declared.PoolId.{PoolId}
use Rattle.gov_ids.specs.Orders.{credential_cmp, pool_cmp}
use Rattle.maps.proofs.Credits.{sum_values-entries}
use Rattle.maps.specs.Maps.{has_key, sum_values, value_at}
use Rattle.drep_pulser.specs.of_accounts.Accounts.{Accounts}
use Rattle.book_records.specs.declared.DrepState.{DrepState}
use Rattle.book_records.specs.declared.Entry.{Entry}
use Rattle.coin_frac.specs.Totals.{total_of}
use Rattle.drep_pulser.specs.Facts.{HasFrozen, held_by}
use Rattle.freeze.specs.Deposits.{paid_by, paid_with}
use Rattle.freeze.specs.Pools.{pool_by}
use Rattle.freeze.specs.Laws.{PoolsAreFrozen}
use Rattle.genesis_books.proofs.Frozen.{live_is}
use Rattle.run_model.specs.of_gov_model.Proposals.{deposits_of}
use Rattle.ledger_books.specs.declared.Books.{Books}
use Rattle.ledger_books.specs.Parts.{ledger_of_books}
use Rattle.run_model.specs.SoundWorld.{IsSoundWorld}
use Rattle.run_model.specs.SoundWorld.{held_by as held_by_entry}
use Rattle.snapshots.specs.Frozen.{frozen_copy_of}
use Rattle.freeze.specs.of_stake_book.Stakes.{AreKept}
use Rattle.view_map.specs.View.{frozen_of}
use Rattle.epoch_start.specs.Begun.{accounts_of_pools, begun_of}

-- the frozen entries are the live ones
pub entries_are : (b : Books) → AreKept b.stake → b.stake.accounts.live ≡ (begun_of b).frozen.entries
entries_are b k = live_is b.stake (ledger_of_books b) k refl refl

-- a DRep is frozen where it is registered
dreps_are : (es : List (Credential × DrepState)) (c : Credential) → has_key credential_cmp (map (λ (e : Credential × DrepState). (e.0, e.1.expiry)) es) c ≡ has_key credential_cmp es c
dreps_are [] c = refl
dreps_are (e ∷ es) c =
    elim (eq_by_cmp credential_cmp c e.0) as (λ b. is_some (cond b (Some e.1.expiry) (value_at credential_cmp (map (λ (e : Credential × DrepState). (e.0, e.1.expiry)) es) c)) ≡ is_some (cond b (Some e.1) (value_at credential_cmp es c))) [
      | true ↦ refl
      | false ↦ dreps_are es c
    ]

-- what entries hold, in the words of the count and in those of a sound state
held_is : (es : List (Credential × Entry)) → held_by es ≡ sum_values held_by_entry es
held_is es = sym (sum_values-entries held_by_entry es)

-- the count finds what is frozen in the books
pub has_frozen : (b : Books) (a : Accounts) (deposits : List (Credential × ℕ)) → AreKept b.stake → IsSoundWorld (begun_of b) → a ≡ b.stake.accounts
    → frozen_of credential_cmp b.stake.accounts ≡ b.stake.accounts.live
    → ((c : Credential) → unwrap_or (value_at credential_cmp deposits c) 0 ≡ paid_by b.proposals c) → total_of deposits ≡ deposits_of b.proposals
    → HasFrozen (begun_of b).frozen a b.dreps deposits
has_frozen b a deposits k s book frozen paid total = record {
  entries = sym (entries_are b k) ∙ sym frozen ∙ ap (λ (x : Accounts). frozen_of credential_cmp x) (sym book);
  dreps = dreps_are b.dreps.dreps;
  deposits = paid;
  room = omega (arith, held_is (begun_of b).frozen.entries, s.frozen.held, total, s.ledger.within);
}

-- the pools of mark, as they are frozen
pub pools_are : PoolsAreFrozen → (b : Books) (a : Accounts) (deposits : List (PoolId × ℕ)) → AreKept b.stake → IsSoundWorld (begun_of b) → a ≡ b.stake.accounts
    → ((p : PoolId) → unwrap_or (value_at pool_cmp deposits p) 0 ≡ paid_with a.live b.proposals p)
    → map (pool_by b.pools a.live deposits) b.snapshots.mark ≡ (frozen_copy_of (begun_of b).frozen).pools
pools_are pools_are_frozen b a deposits k s book paid =
    let live : a.live ≡ (begun_of b).frozen.entries = ap (λ (x : Accounts). x.live) book ∙ entries_are b k in
    ap (λ (es : List (Credential × Entry)). map (pool_by b.pools es deposits) b.snapshots.mark) live
    ∙ pools_are_frozen (begun_of b).frozen b.pools deposits s.mark.pools refl (λ p. paid p ∙ ap (λ (es : List (Credential × Entry)). paid_with es b.proposals p) live)

-- their stakes and the deposits that count with them are amounts of 64 bits
pub pools_have_room : (b : Books) (deposits : List (PoolId × ℕ)) → IsSoundWorld (begun_of b) → total_of deposits ≤ deposits_of b.proposals → total_of b.snapshots.mark + total_of deposits < 2 ^ 64
pools_have_room b deposits s total = omega (arith, s.mark.sum, total, s.frozen.held, s.ledger.within)

same_account : (m : PoolId × ℕ) (rest : List (PoolId × Account)) (p : Option Pool)
    → cons_option (option_map (λ (a : Account). (m.0, a)) (option_map (λ (p : Pool). p.terms.account) p)) rest ≡ cons_option (option_map (λ (p : Pool). (m.0, p.terms.account)) p) rest
same_account m rest None = refl
same_account m rest (Some p) = refl

-- the reward accounts of these pools
pub accounts_are : (pools : List (PoolId × Pool)) (entries : List (Credential × Entry)) (deposits : List (PoolId × ℕ)) (ms : List (PoolId × ℕ))
    → accounts_of_pools (map (pool_by pools entries deposits) ms) ≡ filter_map (λ (m : PoolId × ℕ). option_map (λ (p : Pool). (m.0, p.terms.account)) (value_at pool_cmp pools m.0)) ms
accounts_are pools entries deposits [] = refl
accounts_are pools entries deposits (m ∷ ms) =
    ap (λ (l : List (PoolId × Account)). cons_option (option_map (λ (a : Account). (m.0, a)) (option_map (λ (p : Pool). p.terms.account) (value_at pool_cmp pools m.0))) l) (accounts_are pools entries deposits ms)
    ∙ same_account m (filter_map (λ (m : PoolId × ℕ). option_map (λ (p : Pool). (m.0, p.terms.account)) (value_at pool_cmp pools m.0)) ms) (value_at pool_cmp pools m.0)

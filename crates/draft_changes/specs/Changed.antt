-- What a draft changes, and a ledger with these changes.
-- (CERTS of the formal specification; that changes are laid over a ledger: Own)
use Rattle.std.specs.Prelude.{ℕ, Bool, true, false, List, Option, fold, map}
use Rattle.maps.specs.Maps.{with_values}
use Rattle.maps.specs.Replaced.{with_option}
use Rattle.gov_ids.specs.declared.Credential.{Credential}
use Rattle.gov_ids.specs.declared.PoolId.{PoolId}
use Rattle.gov_ids.specs.Orders.{credential_cmp, pool_cmp}
use Rattle.book_records.specs.declared.DrepState.{DrepState}
use Rattle.book_records.specs.declared.Registered.{Registered}
use Rattle.book_records.specs.declared.pool.Pool.{Pool}
use Rattle.book_records.specs.Dormancy.{with_dormant_added}
use Rattle.gov_actions.specs.declared.state.HotState.{HotState}
use Rattle.ledger_books.specs.of_ledger_model.Ledger.{Ledger}
use Rattle.ledger_books.specs.of_proposal_store.Leaving.{without_votes_of}
use Rattle.stake_book.specs.Stakes.{without_dreps}

-- what a draft changed
pub record Changed : Type 0 where
  -- the registrations; none if an account left
  pub accounts : List (Credential × Option Registered)
  -- the DReps that left: their votes left
  -- and the delegations to them ended, except those of the registrations above
  pub left : List Credential
  pub pools : List (PoolId × Pool)
  -- the DReps, none if one left; and whether the dormant epochs were added to the others
  pub dreps : List (Credential × Option DrepState)
  pub refreshed : Bool
  -- the hot entries
  pub hot : List (Credential × HotState)

-- the registrations with that one for c, or without any for c
abbrev pub with_registered : Credential → Option Registered → List (Credential × Registered) → List (Credential × Registered)
with_registered c to accounts = with_option credential_cmp c to accounts

-- the registrations with each of these changes
abbrev pub with_registrations : List (Credential × Option Registered) → List (Credential × Registered) → List (Credential × Registered)
with_registrations changes accounts = fold (λ es p. with_registered p.0 p.1 es) accounts changes

-- the DReps with each of these changes
abbrev pub with_dreps : List (Credential × Option DrepState) → List (Credential × DrepState) → List (Credential × DrepState)
with_dreps changes dreps = fold (λ es p. with_option credential_cmp p.0 p.1 es) dreps changes

-- the dormant epochs that remain, by whether they were added to the DReps
abbrev pub dormant_by : Bool → ℕ → ℕ
dormant_by true dormant = 0
dormant_by false dormant = dormant

-- the DReps, by the same
abbrev pub dreps_by : Bool → ℕ → ℕ → List (Credential × DrepState) → List (Credential × DrepState)
dreps_by true epoch dormant dreps = with_dormant_added epoch dormant dreps
dreps_by false epoch dormant dreps = dreps

-- a ledger with these changes
abbrev pub laid_over : Changed → Ledger → Ledger
laid_over changes l = record l {
  dormant = dormant_by changes.refreshed l.dormant;
  accounts = with_registrations changes.accounts (without_dreps changes.left l.accounts);
  pools = with_values pool_cmp changes.pools l.pools;
  dreps = with_dreps changes.dreps (dreps_by changes.refreshed l.epoch l.dormant l.dreps);
  hot = with_values credential_cmp changes.hot l.hot;
  proposals = map (without_votes_of changes.left) l.proposals;
}

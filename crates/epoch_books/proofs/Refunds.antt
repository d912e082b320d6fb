-- What the reaping of pools makes of the parts of a ledger.
use Rattle.std.proofs.Common.{◌≡◌, ◌≤◌, ◌<◌, ◌^◌, ◌+◌, ℕ, List, [], ◌∷◌, ◌||◌, map, ap, refl, sym, subst, ◌∙◌, arith}
use Rattle.std.specs.List.{list_any}
use Rattle.std.proofs.lemmas.Cmp.{eq_by_cmp_equiv}
use Rattle.gov_ids.specs.declared.Credential.{Credential}
use Rattle.gov_ids.specs.declared.PoolId.{PoolId}
use Rattle.gov_ids.specs.Orders.{pool_cmp}
use Rattle.gov_ids.specs.Same.{same_pool}
use Rattle.gov_ids.proofs.Totals.{pool_total}
use Rattle.gov_actions.specs.declared.state.EnactState.{EnactState}
use Rattle.book_records.specs.declared.Registered.{Registered}
use Rattle.book_records.specs.declared.pool.Pool.{Pool}
use Rattle.book_records.specs.Pools.{turned, with_terms_turned, retired_at, retires_at}
use Rattle.cert_pool.specs.declared.Reaped.{Reaped}
use Rattle.cert_pool.specs.Reaping.{reaped_entry, reaped_of, left_of}
use Rattle.maps.proofs.Credits.{sum-parted, sum_values-entries}
use Rattle.maps.specs.Maps.{changed_where, has_member, sum_values}
use Rattle.maps.specs.Words.{some_and}
use Rattle.tx_records.specs.declared.report.Retired.{Retired}
use Rattle.ledger_books.specs.declared.Books.{Books}
use Rattle.ledger_books.specs.Parts.{HoldsSupply, IsStep, ledger_of_books, world_of_books}
use Rattle.ledger_model.specs.Flows.{deposits}
use Rattle.ledger_model.specs.Ledger.{Ledger}
use Rattle.ledger_model.specs.Moves.{IsMovedBy}
use Rattle.ledger_model.specs.Supply.{pots_of}
use Rattle.ledger_model.proofs.SameSums.{sum_by-map, sum_values-changed_same, sum_values-each_same}
use Rattle.payments.specs.Amounts.{accounts_credited, all_amounts, unclaimed_of}
use Rattle.run_model.specs.Boundary.{pool_refunds, reaped, terms_turned}
use Rattle.run_model.specs.BoundaryFlows.{payment}
use Rattle.stake_book.specs.Stakes.{Stakes, HasRoom, accounts_of, balances_in, delegates_to_pools, without_pool, without_pools}
use Rattle.epoch_balance.specs.StepLaws.{HasAccounts}
use Rattle.epoch_balance.proofs.StepMoves.{pools_balance, terms_balance}
use Rattle.epoch_books.specs.Retirements.{AreRefunded, after_reaping, pools_of, refunds_of, retired_by, retired_in}

-- the balances stay where delegations end
pub cleared_balances : (pools : List PoolId) (accounts : List (Credential × Registered)) → balances_in (without_pools pools accounts) ≡ balances_in accounts
cleared_balances pools accounts = sum_values-changed_same (λ (r : Registered). r.rewards) (λ c (r : Registered). delegates_to_pools pools r) without_pool (λ r. refl) accounts

-- what is made of each pool that was reaped is made of the pool
refunds_is : (xs : List (PoolId × Pool)) → refunds_of (map reaped_entry xs) ≡ map (λ (e : PoolId × Pool). (e.1.terms.account.cred, e.1.deposit)) xs
refunds_is [] = refl
refunds_is (x ∷ xs) = ap (λ (l : List (Credential × ℕ)). (x.1.terms.account.cred, x.1.deposit) ∷ l) (refunds_is xs)

retired_is : (accounts : List (Credential × Registered)) (xs : List (PoolId × Pool)) → map (retired_by accounts) (map reaped_entry xs) ≡ map (λ e. retired_by accounts (reaped_entry e)) xs
retired_is accounts [] = refl
retired_is accounts (x ∷ xs) = ap (λ (l : List Retired). retired_by accounts (reaped_entry x) ∷ l) (retired_is accounts xs)

is_one : (xs : List (PoolId × Pool)) (p : PoolId) → has_member pool_cmp (pools_of (map reaped_entry xs)) p ≡ list_any (λ (e : PoolId × Pool). same_pool e.0 p) xs
is_one [] p = refl
is_one (x ∷ xs) p = λ i. ((eq_by_cmp_equiv pool_total).symm p x.0 i || is_one xs p i)

cleared_is : (xs : List (PoolId × Pool)) (accounts : List (Credential × Registered))
    → without_pools (pools_of (map reaped_entry xs)) accounts ≡ changed_where (λ c (r : Registered). some_and (λ p. list_any (λ (e : PoolId × Pool). same_pool e.0 p) xs) r.pool) without_pool accounts
cleared_is xs accounts = λ i. changed_where (λ c (r : Registered). some_and (λ p. is_one xs p i) r.pool) without_pool accounts

abbrev pool_deposit : Pool → ℕ
pool_deposit p = p.deposit

-- the refunds are part of the deposits of pools
refunds_within : (epoch : ℕ) (pools : List (PoolId × Pool)) → all_amounts (refunds_of (reaped_of epoch pools)) ≤ sum_values pool_deposit pools
refunds_within epoch pools =
    let all : List (PoolId × Pool) = with_terms_turned pools in
    omega (
      arith,
      sum_by-map (λ (p : Credential × ℕ). p.1) (λ (r : Reaped). (r.account.cred, r.deposit)) (map reaped_entry (retired_at epoch all)),
      sum_by-map (λ (r : Reaped). r.deposit) reaped_entry (retired_at epoch all),
      sum-parted (λ (e : PoolId × Pool). e.1.deposit) (λ e. retires_at epoch e.1) all,
      sum_values-entries pool_deposit all,
      sum_values-each_same pool_deposit (λ p t. turned t) (λ p t. refl) pools,
    )

-- so there is room for them
module _ (b : Books) (h : HoldsSupply b) where
  pub refunds_have_room : HasRoom (all_amounts (refunds_of (reaped_of (b.epoch + 1) b.pools))) b.stake
  refunds_have_room = omega (arith, h.balanced, h.within, refunds_within (b.epoch + 1) b.pools)

  pub refunds_fit : b.state.treasury + all_amounts (refunds_of (reaped_of (b.epoch + 1) b.pools)) < 2 ^ 64
  refunds_fit = omega (arith, h.balanced, h.within, refunds_within (b.epoch + 1) b.pools)

-- the pools that left are those that are reported
pub retired_are : (b : Books) → map (retired_by (accounts_of b.stake)) (reaped_of (b.epoch + 1) b.pools) ≡ retired_in (terms_turned (ledger_of_books b))
retired_are b = retired_is (accounts_of b.stake) (retired_at (b.epoch + 1) (with_terms_turned b.pools))

module _ (b : Books) (stake : Stakes) (state : EnactState) (pools : List (PoolId × Pool)) where
  -- the parts after the reaping
  abbrev pub refunded : Books
  refunded = record b { stake = stake; state = state; pools = pools }

  abbrev gone : List (PoolId × Pool)
  gone = retired_at (b.epoch + 1) (with_terms_turned b.pools)

  module _ (left : pools ≡ left_of (b.epoch + 1) b.pools) (paid : AreRefunded (reaped_of (b.epoch + 1) b.pools) b.stake b.state stake state) where
    ledger_after : ledger_of_books refunded ≡ reaped (terms_turned (ledger_of_books b))
    ledger_after =
        let named : ledger_of_books refunded ≡ record (ledger_of_books b) {
          pools = left_of (b.epoch + 1) b.pools;
          accounts = accounts_credited (refunds_of (map reaped_entry gone)) (without_pools (pools_of (map reaped_entry gone)) (accounts_of b.stake));
          state = record b.state { treasury = b.state.treasury + unclaimed_of (without_pools (pools_of (map reaped_entry gone)) (accounts_of b.stake)) (refunds_of (map reaped_entry gone)) };
        } =
        λ i. record (ledger_of_books b) { pools = left i; outputs = (paid.outputs i).outputs; used = (paid.outputs i).used; accounts = paid.credited i; state = paid.held i } in
        named
        ∙ (λ i. record (ledger_of_books b) {
          pools = left_of (b.epoch + 1) b.pools;
          accounts = accounts_credited (refunds_is gone i) (cleared_is gone (accounts_of b.stake) i);
          state = record b.state { treasury = b.state.treasury + unclaimed_of (cleared_is gone (accounts_of b.stake) i) (refunds_is gone i) };
        })

    pub reaping_is_step : IsStep after_reaping b refunded
    reaping_is_step = λ counted f i. record (world_of_books b counted f) { ledger = ledger_after i }

    pub reaping_moves : HasAccounts (ledger_of_books b) →
        let l : Ledger = terms_turned (ledger_of_books b) in
        IsMovedBy (map (payment deposits l) (pool_refunds l)) (pots_of (ledger_of_books b)) (pots_of (ledger_of_books refunded))
    reaping_moves m =
        let l : Ledger = terms_turned (ledger_of_books b) in
        let moved : IsMovedBy (map (payment deposits l) (pool_refunds l)) (pots_of (ledger_of_books b)) (pots_of (reaped l)) =
        λ p. omega (arith, terms_balance (ledger_of_books b) p, pools_balance l m p) in
        subst (λ (x : Ledger). IsMovedBy (map (payment deposits l) (pool_refunds l)) (pots_of (ledger_of_books b)) (pots_of x)) (sym ledger_after) moved

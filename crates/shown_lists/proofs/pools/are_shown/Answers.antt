use Rattle.std.proofs.Common.{◌≡◌, ℕ, ◌<◌, List, [], Option, None, get_or, length, refl, ap, sym, ◌∙◌, arith}
use Rattle.std.proofs.lemmas.Bool.{false≢true}
use Rattle.std.proofs.lemmas.List.{get_or_default}
use Rattle.gov_ids.specs.declared.Account.{Account}
use Rattle.gov_ids.specs.declared.PoolId.{PoolId}
use Rattle.gov_ids.specs.Orders.{pool_cmp}
use Rattle.maps.specs.Maps.{value_at}
use Rattle.shown_lists.proofs.Places.{each_more, rows_at, rows_each, rows_length}
use Rattle.shown_lists.proofs.pools.are_shown.Goals as goal

abbrev shown : List (PoolId × Account) → PoolId × ℕ → PoolId × Option Account
shown accounts m = (m.0, value_at pool_cmp accounts m.0)

abbrev no_mark : PoolId × ℕ
no_mark = (record { 0 = [] }, 0)

abbrev no_pool : PoolId × Option Account
no_pool = (record { 0 = [] }, None)

pub returns-then-mark-pools : goal.returns-then-mark-pools
returns-then-mark-pools c = (
  λ t. absurd (false≢true t),
  λ e. absurd (c.if-mark-pools.true (rows_length (shown c.args.accounts.now) c.args.mark.now c.args.pools.now e)),
)

pub returns-then-not-is_shown : goal.returns-then-not-is_shown
returns-then-not-is_shown c = (
  λ t. absurd (false≢true t),
  λ e. sym c.if-not-is_shown.true ∙ c.is_shown.ensures.1 (rows_at (shown c.args.accounts.now) c.args.mark.now c.args.pools.now c.loop-place.place no_mark no_pool e c.loop-place-test.true),
)

pub loop-place-preserved : goal.loop-place-preserved
loop-place-preserved c = λ j m p l.
    let mark : List (PoolId × ℕ) = c.args.mark.now in
    let pools : List (PoolId × Option Account) = c.args.pools.now in
    let i : ℕ = c.loop-place.place in
    let within : i < length pools = omega (arith, c.loop-place-test.true, c.if-mark-pools.false) in
    let here : shown c.args.accounts.now (get_or mark i m) ≡ get_or pools i p =
    ap (shown c.args.accounts.now) (get_or_default mark i m no_mark c.loop-place-test.true) ∙ c.is_shown.ensures.0 c.if-not-is_shown.false ∙ get_or_default pools i no_pool p within in
    each_more (λ k. shown c.args.accounts.now (get_or mark k m) ≡ get_or pools k p) i (λ k below. c.loop-place.invariant k m p below) here j l

pub returns : goal.returns
returns c = (
  λ t. rows_each (shown c.args.accounts.now) c.args.mark.now c.args.pools.now c.if-mark-pools.false (λ j x y l. c.loop-place.invariant j x y (omega (arith, l, c.loop-place-test.false))),
  λ e. refl,
)

use Rattle.std.proofs.Common.{◌≡◌, ℕ, ◌+◌, List, [], Bool, ◌&&◌, drop, get_or, true, false, ap, sym, ◌∙◌}
use Rattle.std.specs.List.{list_all}
use Rattle.std.proofs.lemmas.List.{at_drop_more}
use Rattle.gov_ids.specs.declared.Account.{Account}
use Rattle.gov_ids.specs.declared.CredKind.TheVariants.{Key}
use Rattle.gov_ids.specs.declared.PoolId.{PoolId}
use Rattle.gov_ids.specs.Orders.{pool_cmp}
use Rattle.maps.specs.Maps.{has_key}
use Rattle.resume_checks.proofs.forms.are_of_mark.Goals as goal

abbrev nothing : PoolId × Account
nothing = (record { 0 = [] }, record { network = 0; cred = record { hash = []; kind = Key } })

abbrev in_mark : List (PoolId × ℕ) → PoolId × Account → Bool
in_mark mark p = has_key pool_cmp mark p.0

pub returns-then-not-has_key : goal.returns-then-not-has_key
returns-then-not-has_key c =
    let accounts : List (PoolId × Account) = c.args.accounts.now in
    let i : ℕ = c.loop-pool.pool-index in
    let test : PoolId × Account → Bool = in_mark c.args.mark.now in
    let no : test (get_or accounts i nothing) ≡ false = sym c.has_key.ensures ∙ c.if-not-has_key.true in
    sym (ap (λ b. b && list_all test (drop (i + 1) accounts)) no)
    ∙ sym (at_drop_more (list_all test) accounts i nothing c.loop-pool-test.true)
    ∙ c.loop-pool.invariant

pub loop-pool-preserved : goal.loop-pool-preserved
loop-pool-preserved c =
    let accounts : List (PoolId × Account) = c.args.accounts.now in
    let i : ℕ = c.loop-pool.pool-index in
    let test : PoolId × Account → Bool = in_mark c.args.mark.now in
    let yes : test (get_or accounts i nothing) ≡ true = sym c.has_key.ensures ∙ c.if-not-has_key.false in
    sym (ap (λ b. b && list_all test (drop (i + 1) accounts)) yes)
    ∙ sym (at_drop_more (list_all test) accounts i nothing c.loop-pool-test.true)
    ∙ c.loop-pool.invariant

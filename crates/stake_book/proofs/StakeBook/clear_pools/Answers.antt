use Rattle.std.proofs.Common.{◌≡◌, ◌==◌, List, length, true, ap, sym, ◌∙◌}
use Rattle.std.proofs.lemmas.Bool.{eqb-true}
use Rattle.gov_ids.specs.declared.Credential.{Credential}
use Rattle.gov_ids.specs.declared.PoolId.{PoolId}
use Rattle.book_records.specs.declared.Entry.{Entry}
use Rattle.stake_book.specs.Stakes.{registrations, accounts_of, without_pools}
use Rattle.stake_book.specs.declared.leaving.Leaving.TheVariants.{Pools}
use Rattle.stake_book.proofs.Ended.{registrations_without, any_order, no_pool}
use Rattle.stake_book.proofs.StakeBook.clear_pools.Goals as goal

pub returns-then-is_empty-clause-registered : goal.returns-then-is_empty-clause-registered
returns-then-is_empty-clause-registered c =
    let none : (length c.args.pools.now == 0) ≡ true = sym c.is_empty.ensures ∙ c.if-is_empty.true in
    sym (no_pool c.args.pools.now (accounts_of c.args.self.now) (eqb-true (length c.args.pools.now) 0 none))

pub returns-clause-registered : goal.returns-clause-registered
returns-clause-registered c =
    ap (λ (es : List (Credential × Entry)). registrations es) c.in_ok-clear.ensures.live
    ∙ registrations_without (Pools c.in_ok-pools.pools) c.args.self.now.accounts.live
    ∙ ap (λ (ps : List PoolId). without_pools ps (accounts_of c.args.self.now)) c.in_ok-pools.ensures
    ∙ any_order c.args.pools.now (accounts_of c.args.self.now)

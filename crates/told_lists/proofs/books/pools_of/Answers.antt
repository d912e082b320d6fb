use Rattle.std.proofs.Common.{◌≡◌, Some, None, true, map, sym, subst}
use Rattle.std.specs.List.{list_all}
use Rattle.gov_ids.specs.declared.PoolId.{PoolId}
use Rattle.book_records.specs.declared.pool.Pool.{Pool}
use Rattle.checkpoint_lists.specs.Shown.{pool_row}
use Rattle.shown_lists.specs.Only.{IsOnly}
use Rattle.told_lists.proofs.BookParts.{IsAny, Pools, any_form}
use Rattle.told_lists.proofs.Found.{moved, none_first, one_passing}
use Rattle.told_lists.proofs.books.pools_of.Goals as goal

abbrev IsPlain : Pools → Type 0
IsPlain ps = list_all (λ (p : PoolId × Pool). true) ps ≡ true

pub returns-in-Some : goal.returns-in-Some
returns-in-Some c =
    subst (λ (ps : Pools). IsOnly IsAny (map pool_row) c.args.rows (Some ps)) (sym c.from_vec.ensures)
    (one_passing IsAny (λ x k. any_form x) (moved IsPlain (map pool_row) (Some c.in-Some.pools.items) c.as_slice.ensures (rw c.in-Some.is at c.in_ok-pools.ensures)) tt)

pub returns : goal.returns
returns c = none_first IsAny (λ x k. any_form x) (moved IsPlain (map pool_row) None c.as_slice.ensures (rw c.in-None.is at c.in_ok-pools.ensures))

use Rattle.std.proofs.Common.{[], None, sym, rules}
use Rattle.std.proofs.lemmas.List.Sorted.{answers_always}
use Rattle.book_records.specs.declared.pool.DefaultVote.TheVariants.{No}
use Rattle.snapshots.specs.declared.frozen.FrozenPool.{FrozenPool}
use Rattle.tally.proofs.ById.{found_by_id, missed_by_id}
use Rattle.tally.proofs.silent_pools.pool_in.Goals as goal

abbrev no_one : FrozenPool
no_one = record { pool = record { 0 = [] }; account = None; stake = 0; default_vote = No }

pub returns-in-Ok : goal.returns-in-Ok
returns-in-Ok c =
    let equal = c.in-Ok.ensures.position (λ (p : FrozenPool). p.pool) (answers_always _ _ _ (λ f a r g called. search rules)) in
    sym (found_by_id c.args.pools.now c.requires c.args.pool.now c.in-Ok.i no_one c.in-Ok.ensures.bound (equal no_one))

pub returns-in-Err : goal.returns-in-Err
returns-in-Err c =
    let parted = c.in-Err.ensures.position (λ (p : FrozenPool). p.pool) (answers_always _ _ _ (λ f a r g called. search rules)) in
    sym (missed_by_id c.args.pools.now c.requires c.args.pool.now c.in-Err.field-0 c.in-Err.ensures.bound parted)

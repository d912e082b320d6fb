use Rattle.std.proofs.Common.{List, subst, sym, ◌∙◌, arith}
use Rattle.gov_ids.specs.declared.Voter.{Voter}
use Rattle.gov_actions.specs.declared.action.Vote.{Vote}
use Rattle.tally.specs.Silent.{silent_pools}
use Rattle.tally.proofs.PoolSides.{pools_counted}
use Rattle.tally.proofs.SilentPools.{ordered_pools, pools_cast, pools_weigh}
use Rattle.tally.proofs.Votes.{IsSoFar, all_voted, begun, next_votable, next_voted}
use Rattle.tally.proofs.silent_pools.pool_count_by_votes.Goals as goal

pub loop-voter-init : goal.loop-voter-init
loop-voter-init c =
    let f = c.args.f.now in
    let a = c.args.a.now in
    subst (λ (left : List (Voter × Vote)). IsSoFar (silent_pools f a.action) a.votes left c.count_on-count.result) (sym c.as_slice-voter-items.ensures)
    (begun (silent_pools f a.action) a.votes c.count_on-count.result (c.count_on-count.ensures ∙ c.requires.silent.count a.action) (ordered_pools a.action f.pools c.requires.silent.in_order) c.requires.in_order)

pub with_vote-count-requires : goal.with_vote-count-requires
with_vote-count-requires c =
    let a = c.args.a.now in
    next_votable (silent_pools c.args.f.now a.action) a.votes c.as_slice-voter-items.result.now c.loop-voter.voter-index c.loop-voter.count c.silent_pool.result
    c.loop-voter.invariant c.loop-voter-test.true c.silent_pool.ensures (omega (arith, pools_weigh a.action c.args.f.now.pools, c.requires.fits))

pub loop-voter-preserved : goal.loop-voter-preserved
loop-voter-preserved c =
    next_voted (silent_pools c.args.f.now c.args.a.now.action) c.args.a.now.votes c.as_slice-voter-items.result.now c.loop-voter.voter-index c.loop-voter.count c.silent_pool.result
    c.with_vote-count.result c.loop-voter.invariant c.loop-voter-test.true c.silent_pool.ensures c.with_vote-count.ensures

pub returns : goal.returns
returns c = λ s e.
    let f = c.args.f.now in
    let a = c.args.a.now in
    all_voted (silent_pools f a.action) a.votes c.as_slice-voter-items.result.now c.loop-voter.voter-index c.loop-voter.count c.loop-voter.invariant c.loop-voter-test.false
    ∙ pools_cast f a ∙ pools_counted f a s e

use Rattle.std.proofs.Common.{List, ap, sym, ◌∙◌, map}
use Rattle.tx_records.specs.declared.tx.VoteRecord.{VoteRecord}
use Rattle.live_ledger.proofs.Proposing.{vote_next, voted, votes_done}
use Rattle.live_ledger.proofs.proposals.cast_votes.Goals as goal

pub loop-cast-preserved : goal.loop-cast-preserved
loop-cast-preserved c =
    vote_next c.as_slice-cast-items.result.now c.loop-cast.cast-index _ c.loop-cast.store c.vote.new.self c.loop-cast-test.true c.in_ok-vote.ensures.ok ∙ c.loop-cast.invariant

pub returns : goal.returns
returns c =
    sym (votes_done c.as_slice-cast-items.result.now c.loop-cast.cast-index c.loop-cast.store c.loop-cast-test.false)
    ∙ c.loop-cast.invariant ∙ ap (λ (vs : List VoteRecord). map (voted vs) c.args.store.now) c.as_slice-cast-items.ensures

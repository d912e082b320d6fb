use Rattle.std.proofs.Common.{List, flat_map, map, ap}
use Rattle.checkpoint_model.specs.Checkpoint.{frozen_proposal_lines}
use Rattle.gov_actions.specs.declared.action.Proposal.{Proposal}
use Rattle.gov_actions.specs.declared.state.HotState.{HotState}
use Rattle.gov_ids.specs.declared.Credential.{Credential}
use Rattle.report.proofs.Handed.{put_as}
use Rattle.report.proofs.Puts.{put_first, put_second, put_third}
use Rattle.snapshots.specs.declared.frozen.FrozenPool.{FrozenPool}
use Rattle.text_model.specs.StateLines.{hot_words}
use Rattle.checkpoint_print.specs.LineWords.{pool_words}
use Rattle.checkpoint_print.proofs.frozen.put_voters.Goals as goal

pub returns-in_err-put_keys : goal.returns-in_err-put_keys
returns-in_err-put_keys g c =
    put_first (map hot_words c.args.frozen.now.hot)
    (map pool_words c.args.frozen.now.pools)
    (flat_map frozen_proposal_lines c.args.frozen.now.proposals)
    (put_as (ap (λ (hs : List (Credential × HotState)). map hot_words hs) c.as_slice.ensures) c.in_err-put_keys.ensures) c.from_residual.ensures.1

pub returns-in_err-put_pools : goal.returns-in_err-put_pools
returns-in_err-put_pools g c =
    put_second (map hot_words c.args.frozen.now.hot)
    (map pool_words c.args.frozen.now.pools)
    (flat_map frozen_proposal_lines c.args.frozen.now.proposals)
    (put_as (ap (λ (hs : List (Credential × HotState)). map hot_words hs) c.as_slice.ensures) c.in_ok-put_keys.ensures)
    (put_as (ap (λ (ps : List FrozenPool). map pool_words ps) c.as_slice-2.ensures) c.in_err-put_pools.ensures) c.from_residual-in_err-put_pools.ensures.1

pub returns : goal.returns
returns g c =
    put_third (map hot_words c.args.frozen.now.hot)
    (map pool_words c.args.frozen.now.pools)
    (flat_map frozen_proposal_lines c.args.frozen.now.proposals)
    (put_as (ap (λ (hs : List (Credential × HotState)). map hot_words hs) c.as_slice.ensures) c.in_ok-put_keys.ensures)
    (put_as (ap (λ (ps : List FrozenPool). map pool_words ps) c.as_slice-2.ensures) c.in_ok-put_pools.ensures)
    (put_as (ap (λ (ps : List Proposal). flat_map frozen_proposal_lines ps) c.as_slice-3.ensures) c.put_proposals.ensures)

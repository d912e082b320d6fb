use Rattle.std.proofs.Common.{◌≡◌, [], drop}
use Rattle.gov_ids.specs.Orders.{voter_cmp}
use Rattle.maps.specs.Maps.{with_values}
use Rattle.proposal_store.proofs.live.tree_of.Given as goal

-- the votes so far with those that are yet to come
abbrev pub invariant-loop-v : goal.invariant-loop-v
invariant-loop-v l = with_values voter_cmp (drop l.v-index l.votes) l.tree.entries ≡ with_values voter_cmp l.votes []

use Rattle.std.proofs.Common.{◌≡◌}
use Rattle.gov_ids.specs.declared.Credential.{Credential}
use Rattle.gov_ids.specs.declared.Voter.TheVariants.{Drep}
use Rattle.gov_ids.specs.Orders.{voter_cmp}
use Rattle.maps.specs.Maps.{has_key}
use Rattle.proposal_store.specs.Voted.{noted_of, AreOnce}
use Rattle.proposal_store.proofs.VotesNoted.{left_out}
use Rattle.proposal_store.proofs.live.LiveProposal.forget_votes.Given as goal

-- without those that are yet to come, the notes are without all
abbrev pub invariant-loop-v : goal.invariant-loop-v
invariant-loop-v l =
    goal.iterator-loop-v.can_next l.v-iterator
    × goal.iterator-loop-v.is_finite l.v-iterator
    × AreOnce l.voted
    × ((c : Credential) → left_out (has_key voter_cmp l.v-iterator (Drep c)) l.self-inside.proposal.id (noted_of l.voted c)
    ≡ left_out (has_key voter_cmp l.self-inside.votes.entries (Drep c)) l.self-inside.proposal.id (noted_of l.fn.voted c))

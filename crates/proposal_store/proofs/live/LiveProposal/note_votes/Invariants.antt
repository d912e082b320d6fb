use Rattle.std.proofs.Common.{◌≡◌, true, false}
use Rattle.gov_ids.specs.declared.Credential.{Credential}
use Rattle.gov_ids.specs.declared.Voter.TheVariants.{Drep}
use Rattle.gov_ids.specs.Orders.{voter_cmp}
use Rattle.maps.specs.Maps.{IsMap, has_key}
use Rattle.proposal_store.specs.Voted.{is_noted, noted_of, AreOnce}
use Rattle.proposal_store.proofs.VotesNoted.{put_in}
use Rattle.proposal_store.proofs.live.LiveProposal.note_votes.Given as goal

-- of those that are yet to come none is noted, and with them the notes are with all
abbrev pub invariant-loop-v : goal.invariant-loop-v
invariant-loop-v l =
    goal.iterator-loop-v.can_next l.v-iterator
    × goal.iterator-loop-v.is_finite l.v-iterator
    × IsMap voter_cmp l.v-iterator
    × AreOnce l.voted
    × ((c : Credential) → has_key voter_cmp l.v-iterator (Drep c) ≡ true → is_noted l.voted c l.self-inside.proposal.id ≡ false)
    × ((c : Credential) → put_in (has_key voter_cmp l.v-iterator (Drep c)) l.self-inside.proposal.id (noted_of l.voted c)
    ≡ put_in (has_key voter_cmp l.self-inside.votes.entries (Drep c)) l.self-inside.proposal.id (noted_of l.fn.voted c))

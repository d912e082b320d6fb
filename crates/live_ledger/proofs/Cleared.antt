-- The live proposals without the votes of DReps that left: what stays of them, and those of one DRep more.
use Rattle.std.proofs.Common.{◌≡◌, ℕ, ◌+◌, List, [], ◌∷◌, ◌++◌, filter, map, refl, arith}
use Rattle.std.specs.List.Sorted.{IsStrictlySortedBy}
use Rattle.std.proofs.lemmas.List.Sums.{sum_by-cons}
use Rattle.gov_ids.specs.declared.Credential.{Credential}
use Rattle.gov_ids.specs.declared.TxId.{TxId}
use Rattle.gov_ids.specs.declared.Voter.TheVariants as voter
use Rattle.gov_ids.specs.Orders.{credential_cmp, voter_cmp}
use Rattle.gov_ids.specs.Same.{same_action}
use Rattle.gov_ids.proofs.Totals.{credential_total, voter_total}
use Rattle.gov_actions.specs.declared.action.Proposal.{Proposal}
use Rattle.gov_model.specs.Proposals.{deposits_of, without_vote}
use Rattle.maps.proofs.Kept.{IsMap-entries_where, IsMap-with_values}
use Rattle.maps.proofs.Sets.{has_member-with_key}
use Rattle.maps.specs.Maps.{with_key}
use Rattle.proposal_store.specs.Store.{AllOrdered}
use Rattle.tx_records.specs.declared.tx.ProposalRecord.{ProposalRecord}
use Rattle.tx_records.specs.declared.tx.VoteRecord.{VoteRecord}
use Rattle.proposal_store.specs.Leaving.{without_votes_of}
use Rattle.proposal_store.proofs.Leavers.{all_stay, stays, votes_after}
use Rattle.live_ledger.proofs.Proposing.{AreUsed, proposed_from, voted}

-- ---- what stays

pub used-cleared : (used : List TxId) (dreps : List Credential) (ps : List Proposal) → AreUsed used ps → AreUsed used (map (without_votes_of dreps) ps)
used-cleared used dreps [] h = tt
used-cleared used dreps (p ∷ ps) h = (h.0, used-cleared used dreps ps h.1)

pub deposits-cleared : (dreps : List Credential) (ps : List Proposal) → deposits_of (map (without_votes_of dreps) ps) ≡ deposits_of ps
deposits-cleared dreps [] = refl
deposits-cleared dreps (p ∷ ps) =
    omega (
      arith,
      deposits-cleared dreps ps,
      sum_by-cons (λ (x : Proposal). x.deposit) (without_votes_of dreps p) (map (without_votes_of dreps) ps),
      sum_by-cons (λ (x : Proposal). x.deposit) p ps,
    )

-- votes stay maps
pub ordered-cleared : (dreps : List Credential) (ps : List Proposal) → AllOrdered ps → AllOrdered (map (without_votes_of dreps) ps)
ordered-cleared dreps [] h = tt
ordered-cleared dreps (p ∷ ps) h = (IsMap-entries_where voter_cmp (stays dreps) p.votes h.0, ordered-cleared dreps ps h.1)

pub ordered-voted : (vs : List VoteRecord) (ps : List Proposal) → AllOrdered ps → AllOrdered (map (voted vs) ps)
ordered-voted vs [] h = tt
ordered-voted vs (p ∷ ps) h = (
  IsMap-with_values voter_total (map (λ (v : VoteRecord). (v.voter, v.vote)) (filter (λ (v : VoteRecord). same_action v.action p.id) vs)) p.votes h.0,
  ordered-voted vs ps h.1,
)

pub ordered-proposed : (last : ℕ) (id : TxId) (i : ℕ) (ps : List ProposalRecord) → AllOrdered (proposed_from last id i ps)
unfolding IsStrictlySortedBy
ordered-proposed last id i [] = tt
ordered-proposed last id i (p ∷ ps) = (tt, ordered-proposed last id (i + 1) ps)

pub ordered-append : (ps qs : List Proposal) → AllOrdered ps → AllOrdered qs → AllOrdered (ps ++ qs)
ordered-append [] qs h k = k
ordered-append (p ∷ ps) qs h k = (h.0, ordered-append ps qs h.1 k)

-- ---- one DRep more

-- the DRep leaves after those
pub cleared_after : (c : Credential) (dreps : List Credential) (ps : List Proposal) → AllOrdered ps
    → map (without_votes_of (with_key credential_cmp c dreps)) ps ≡ map (without_vote (voter.Drep c)) (map (without_votes_of dreps) ps)
cleared_after c dreps [] h = refl
cleared_after c dreps (p ∷ ps) h =
    let votes = votes_after c dreps (with_key credential_cmp c dreps) (λ q. has_member-with_key credential_total c dreps q) p.votes h.0 in
    λ i. record p { votes = votes i } ∷ cleared_after c dreps ps h.1 i

-- where none leaves all votes stay
pub cleared_none : (ps : List Proposal) → map (without_votes_of []) ps ≡ ps
cleared_none [] = refl
cleared_none (p ∷ ps) =
    λ i. record p { votes = all_stay p.votes i } ∷ cleared_none ps i

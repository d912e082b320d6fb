-- Votes and proposals of a transaction that come to those of a ledger, one after another.
use Rattle.std.proofs.Common.{◌≡◌, ℕ, ◌+◌, ◌<◌, ◌≤◌, ◌^◌, Bool, true, false, cond, List, [], ◌∷◌, ◌++◌, Option, Some, None, filter, length, drop, get_or, map, sum_by, refl, ap, sym, ◌∙◌, arith, append_assoc, append-nil}
use Rattle.std.proofs.Math.ListN.{drop_of_length-le}
use Rattle.std.proofs.lemmas.List.{drop_more}
use Rattle.std.specs.List.{AllByRecursion, enumerate_from}
use Rattle.std.proofs.lemmas.Cmp.{eq_by_cmp_equiv}
use Rattle.std.proofs.lemmas.List.Sums.{sum_by-append, sum_by-cons, sum_by-drop_more}
use Rattle.gov_actions.specs.declared.action.Proposal.{Proposal}
use Rattle.gov_ids.specs.declared.ActionId.{ActionId}
use Rattle.gov_ids.specs.declared.TxId.{TxId}
use Rattle.gov_ids.specs.Orders.{txid_cmp, voter_cmp}
use Rattle.gov_ids.specs.Same.{same_action}
use Rattle.gov_ids.proofs.Exacts.{action_id_exact}
use Rattle.gov_ids.proofs.Totals.{action_id_total}
use Rattle.gov_model.specs.Proposals.{deposits_of, proposal_of, with_change, with_vote}
use Rattle.ledger_model.specs.Transaction.{made_proposal}
use Rattle.maps.proofs.Ties.{same_key}
use Rattle.maps.specs.Maps.{has_member, with_key, with_values}
use Rattle.tx_records.specs.declared.tx.ProposalRecord.{ProposalRecord}
use Rattle.tx_records.specs.declared.tx.VoteRecord.{VoteRecord}
use Rattle.tx_balance.proofs.Sounds.{still_used}
use Rattle.live_ledger.specs.Proposed.{IsUnknown}

-- ---- votes

-- with these votes
abbrev pub voted : List VoteRecord → Proposal → Proposal
voted vs p = record p { votes = with_values voter_cmp (map (λ (v : VoteRecord). (v.voter, v.vote)) (filter (λ (v : VoteRecord). same_action v.action p.id) vs)) p.votes }

voted_by : (v : VoteRecord) (vs : List VoteRecord) (p : Proposal) (b c : Bool) → b ≡ c
    → voted vs (cond b (with_vote v.voter v.vote p) p)
    ≡ record p { votes = with_values voter_cmp (map (λ (x : VoteRecord). (x.voter, x.vote)) (cond c (v ∷ filter (λ (x : VoteRecord). same_action x.action p.id) vs) (filter (λ (x : VoteRecord). same_action x.action p.id) vs))) p.votes }
voted_by v vs p true true e = refl
voted_by v vs p false false e = refl
voted_by v vs p true false e = cc
voted_by v vs p false true e = cc

-- the first vote, and then the others
pub vote_first : (v : VoteRecord) (vs : List VoteRecord) (ps : List Proposal) → map (voted vs) (with_change v.action (with_vote v.voter v.vote) ps) ≡ map (voted (v ∷ vs)) ps
vote_first v vs [] = refl
vote_first v vs (p ∷ ps) =
    let first = voted_by v vs p (same_action p.id v.action) (same_action v.action p.id) ((eq_by_cmp_equiv action_id_total).symm p.id v.action) in
    λ i. first i ∷ vote_first v vs ps i

pub vote_none : (ps : List Proposal) → map (voted []) ps ≡ ps
vote_none [] = refl
vote_none (p ∷ ps) = ap (λ (l : List Proposal). p ∷ l) (vote_none ps)

-- the vote at the place i, and then the later ones
pub vote_next : (vs : List VoteRecord) (i : ℕ) (d : VoteRecord) (ps qs : List Proposal) → i < length vs
    → qs ≡ with_change (get_or vs i d).action (with_vote (get_or vs i d).voter (get_or vs i d).vote) ps → map (voted (drop (i + 1) vs)) qs ≡ map (voted (drop i vs)) ps
vote_next vs i d ps qs h e =
    ap (λ (l : List Proposal). map (voted (drop (i + 1) vs)) l) e ∙ vote_first (get_or vs i d) (drop (i + 1) vs) ps
    ∙ ap (λ (l : List VoteRecord). map (voted l) ps) (sym (drop_more vs i d h))

-- no vote is left
pub votes_done : (vs : List VoteRecord) (i : ℕ) (ps : List Proposal) → length vs ≤ i → map (voted (drop i vs)) ps ≡ ps
votes_done vs i ps h = ap (λ (l : List VoteRecord). map (voted l) ps) (drop_of_length-le vs h) ∙ vote_none ps

-- votes leave deposits
pub deposits-voted : (vs : List VoteRecord) (ps : List Proposal) → deposits_of (map (voted vs) ps) ≡ deposits_of ps
deposits-voted vs [] = refl
deposits-voted vs (p ∷ ps) = omega (arith, deposits-voted vs ps, sum_by-cons (λ (x : Proposal). x.deposit) (voted vs p) (map (voted vs) ps), sum_by-cons (λ (x : Proposal). x.deposit) p ps)

-- ---- what is known of ids

-- the transaction of each is a used one
abbrev pub AreUsed : List TxId → List Proposal → Type 0
AreUsed used ps = AllByRecursion (λ (p : Proposal). has_member txid_cmp used p.id.tx ≡ true) ps

pub used-voted : (used : List TxId) (vs : List VoteRecord) (ps : List Proposal) → AreUsed used ps → AreUsed used (map (voted vs) ps)
used-voted used vs [] h = tt
used-voted used vs (p ∷ ps) h = (h.0, used-voted used vs ps h.1)

-- another one more
pub used-more : (used : List TxId) (id : TxId) (ps : List Proposal) → AreUsed used ps → AreUsed (with_key txid_cmp id used) ps
used-more used id [] h = tt
used-more used id (p ∷ ps) h = (still_used used id p.id.tx h.0, used-more used id ps h.1)

pub used-append : (used : List TxId) (ps qs : List Proposal) → AreUsed used ps → AreUsed used qs → AreUsed used (ps ++ qs)
used-append used [] qs h k = k
used-append used (p ∷ ps) qs h k = (h.0, used-append used ps qs h.1 k)

unknown_first : (used : List TxId) (id : TxId) (i : ℕ) (p : Proposal) (rest : Option Proposal) (b : Bool) → same_action p.id (record { tx = id; index = i }) ≡ b → has_member txid_cmp used id ≡ false
    → has_member txid_cmp used p.id.tx ≡ true → rest ≡ None → cond b (Some p) rest ≡ None
unknown_first used id i p rest true e n h more =
    let one : p.id.tx ≡ id = ap (λ (a : ActionId). a.tx) (same_key action_id_exact p.id (record { tx = id; index = i }) e) in
    let yes : has_member txid_cmp used id ≡ true = sym (ap (λ (t : TxId). has_member txid_cmp used t) one) ∙ h in cc
unknown_first used id i p rest false e n h more = more

-- a transaction with a new id proposed none of them
pub used_unknown : (used : List TxId) (id : TxId) (ps : List Proposal) → has_member txid_cmp used id ≡ false → AreUsed used ps → IsUnknown id ps
used_unknown used id [] n h i = refl
used_unknown used id (p ∷ ps) n h i = unknown_first used id i p (proposal_of (record { tx = id; index = i }) ps) _ refl n h.0 (used_unknown used id ps n h.1 i)

-- ---- proposals

module _ (id : TxId) where
  other_place : (i j : ℕ) (b : Bool) → i < j → same_action (record { tx = id; index = i }) (record { tx = id; index = j }) ≡ b → b ≡ false
  other_place i j true lt e = absurd (
      let one : i ≡ j = ap (λ (a : ActionId). a.index) (same_key action_id_exact (record { tx = id; index = i }) (record { tx = id; index = j }) e) in omega arith
      )
  other_place i j false lt e = refl

  found_by : (b : Bool) (p : Proposal) (rest : Option Proposal) → b ≡ false → cond b (Some p) rest ≡ rest
  found_by true p rest e = cc
  found_by false p rest e = refl

  found_first : (b : Bool) (p : Proposal) (a c : Option Proposal) → cond b (Some p) a ≡ None → (a ≡ None → c ≡ None) → cond b (Some p) c ≡ None
  found_first true p a c e k = cc
  found_first false p a c e k = k e

  -- with the proposal at the place i, those at later places are still unknown
  pub unknown-more : (i j : ℕ) (p : Proposal) (ps : List Proposal) → p.id ≡ record { tx = id; index = i } → i < j → proposal_of (record { tx = id; index = j }) ps ≡ None
      → proposal_of (record { tx = id; index = j }) (ps ++ p ∷ []) ≡ None
  unknown-more i j p [] e lt h =
      found_by (same_action p.id (record { tx = id; index = j })) p None (ap (λ (a : ActionId). same_action a (record { tx = id; index = j })) e ∙ other_place i j _ lt refl)
  unknown-more i j p (q ∷ ps) e lt h =
      found_first (same_action q.id (record { tx = id; index = j })) q (proposal_of (record { tx = id; index = j }) ps) (proposal_of (record { tx = id; index = j }) (ps ++ p ∷ [])) h (unknown-more i j p ps e lt)

-- those from the place i on
abbrev pub proposed_from : ℕ → TxId → ℕ → List ProposalRecord → List Proposal
proposed_from last id i ps = map (λ p. made_proposal last id p.0 p.1) (enumerate_from i ps)

pub used-proposed : (used : List TxId) (last : ℕ) (id : TxId) (i : ℕ) (ps : List ProposalRecord) → has_member txid_cmp used id ≡ true → AreUsed used (proposed_from last id i ps)
used-proposed used last id i [] h = tt
used-proposed used last id i (p ∷ ps) h = (h, used-proposed used last id (i + 1) ps h)

pub deposits-proposed : (last : ℕ) (id : TxId) (i : ℕ) (ps : List ProposalRecord) → deposits_of (proposed_from last id i ps) ≡ sum_by (λ (p : ProposalRecord). p.deposit) ps
deposits-proposed last id i [] = refl
deposits-proposed last id i (p ∷ ps) =
    omega (
      arith,
      deposits-proposed last id (i + 1) ps,
      sum_by-cons (λ (x : Proposal). x.deposit) (made_proposal last id i p) (proposed_from last id (i + 1) ps),
      sum_by-cons (λ (x : ProposalRecord). x.deposit) p ps,
    )

pub deposits-append : (ps qs : List Proposal) → deposits_of (ps ++ qs) ≡ deposits_of ps + deposits_of qs
deposits-append ps qs = sum_by-append (λ (p : Proposal). p.deposit) ps qs

-- one proposal more
module _ (id : TxId) (last : ℕ) (all : List ProposalRecord) (i : ℕ) (p : ProposalRecord) (lt : i < length all) (is : p ≡ get_or all i p) (a : Proposal)
    (made : a ≡ made_proposal last id i p)
    (old new : List Proposal) (added : new ≡ old ++ a ∷ []) where
  pub next_made : new ++ proposed_from last id (i + 1) (drop (i + 1) all) ≡ old ++ proposed_from last id i (drop i all)
  next_made =
      let rest = proposed_from last id (i + 1) (drop (i + 1) all) in
      let front : drop i all ≡ p ∷ drop (i + 1) all = drop_more all i p lt ∙ ap (λ (x : ProposalRecord). x ∷ drop (i + 1) all) (sym is) in
      ap (λ (l : List Proposal). l ++ rest) added ∙ append_assoc old (a ∷ []) rest ∙ (λ j. old ++ (made j ∷ rest)) ∙ ap (λ (l : List ProposalRecord). old ++ proposed_from last id i l) (sym front)

  pub next_unknown : ((j : ℕ) → i ≤ j → proposal_of (record { tx = id; index = j }) old ≡ None) → (j : ℕ) → i + 1 ≤ j → proposal_of (record { tx = id; index = j }) new ≡ None
  next_unknown h j le = ap (λ (l : List Proposal). proposal_of (record { tx = id; index = j }) l) added ∙ unknown-more id i j a old (ap (λ (x : Proposal). x.id) made) (omega arith) (h j (omega arith))

  pub next_room : deposits_of old + sum_by (λ (x : ProposalRecord). x.deposit) (drop i all) < 2 ^ 64 → deposits_of new + sum_by (λ (x : ProposalRecord). x.deposit) (drop (i + 1) all) < 2 ^ 64
  next_room h =
      omega (
        arith,
        ap (λ (l : List Proposal). deposits_of l) added,
        deposits-append old (a ∷ []),
        ap (λ (x : Proposal). x.deposit) made,
        ap (λ (x : ProposalRecord). x.deposit) is,
        sum_by-drop_more (λ (x : ProposalRecord). x.deposit) all i p lt,
      )

-- no proposal is left
pub proposals_done : (last : ℕ) (id : TxId) (all : List ProposalRecord) (i : ℕ) (ps : List Proposal) → length all ≤ i → ps ++ proposed_from last id i (drop i all) ≡ ps
proposals_done last id all i ps h = ap (λ (l : List ProposalRecord). ps ++ proposed_from last id i l) (drop_of_length-le all h) ∙ append-nil ps

-- Old votes put back one after another.
use Rattle.std.proofs.Common.{◌≡◌, ℕ, ◌+◌, ◌<◌, ◌≤◌, List, [], ◌∷◌, true, false, cond, Option, drop, filter, get_or, length, map, refl, ap, sym, ◌∙◌}
use Rattle.std.proofs.lemmas.Cmp.{eq_by_cmp_equiv}
use Rattle.std.proofs.lemmas.List.{at_drop_all, at_drop_more}
use Rattle.gov_ids.proofs.Totals.{action_id_total}
use Rattle.gov_ids.specs.declared.ActionId.{ActionId}
use Rattle.gov_ids.specs.declared.Voter.{Voter}
use Rattle.gov_ids.specs.Orders.{voter_cmp}
use Rattle.gov_ids.specs.Same.{same_action}
use Rattle.gov_actions.specs.declared.action.Proposal.{Proposal}
use Rattle.gov_actions.specs.declared.action.Vote.{Vote}
use Rattle.gov_model.specs.Proposals.{with_change}
use Rattle.undo_model.specs.Undone.{with_old, with_old_votes}
use Rattle.undo_back.specs.Steps.{with_old_vote}

abbrev pub OldVote : Type 0
OldVote = (ActionId × Voter) × Option Vote

-- the voter and the vote
abbrev cast : OldVote → Voter × Option Vote
cast old = (old.0.1, old.1)

-- a proposal with one old vote, then the others, has all
on_one : (old : OldVote) (olds : List OldVote) (p : Proposal) → with_old_votes olds (cond (same_action p.id old.0.0) (with_old_vote old.0.1 old.1 p) p) ≡ with_old_votes (old ∷ olds) p
on_one old olds p =
    ap (λ b. with_old_votes olds (cond b (with_old_vote old.0.1 old.1 p) p)) ((eq_by_cmp_equiv action_id_total).symm p.id old.0.0)
    ∙ elim (same_action old.0.0 p.id) as (λ b. with_old_votes olds (cond b (with_old_vote old.0.1 old.1 p) p)
    ≡ record p { votes = with_old voter_cmp (map cast (cond b (old ∷ filter (λ v. same_action v.0.0 p.id) olds) (filter (λ v. same_action v.0.0 p.id) olds))) p.votes }) [
      | true ↦ refl
      | false ↦ refl
    ]

on_all : (old : OldVote) (olds : List OldVote) (ps : List Proposal) → map (with_old_votes olds) (with_change old.0.0 (with_old_vote old.0.1 old.1) ps) ≡ map (with_old_votes (old ∷ olds)) ps
on_all old olds [] = refl
on_all old olds (p ∷ ps) =
    let first = on_one old olds p in
    let rest : map (with_old_votes olds) (with_change old.0.0 (with_old_vote old.0.1 old.1) ps) ≡ map (with_old_votes (old ∷ olds)) ps = on_all old olds ps in
    λ i. first i ∷ rest i

-- one old vote more is put back
pub vote_next : (olds : List OldVote) (i : ℕ) (d : OldVote) (ps qs : List Proposal) → i < length olds
    → qs ≡ with_change (get_or olds i d).0.0 (with_old_vote (get_or olds i d).0.1 (get_or olds i d).1) ps
    → map (with_old_votes (drop (i + 1) olds)) qs ≡ map (with_old_votes (drop i olds)) ps
vote_next olds i d ps qs l e =
    ap (λ (xs : List Proposal). map (with_old_votes (drop (i + 1) olds)) xs) e ∙ on_all (get_or olds i d) (drop (i + 1) olds) ps
    ∙ sym (at_drop_more (λ (left : List OldVote). map (with_old_votes left) ps) olds i d l)

none_back : (ps : List Proposal) → map (with_old_votes []) ps ≡ ps
none_back [] = refl
none_back (p ∷ ps) = let rest : map (with_old_votes []) ps ≡ ps = none_back ps in λ i. p ∷ rest i

-- no old vote is left to put back
pub votes_done : (olds : List OldVote) (i : ℕ) (ps : List Proposal) → length olds ≤ i → map (with_old_votes (drop i olds)) ps ≡ ps
votes_done olds i ps l = at_drop_all (λ (left : List OldVote). map (with_old_votes left) ps) olds i l ∙ none_back ps

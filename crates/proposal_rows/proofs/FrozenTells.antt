-- The frozen proposals that rows of ids and votes show.
use Rattle.std.proofs.Common.{◌≡◌, true, List, [], ◌∷◌, Option, Some, None, filter, map, option_map, refl, ap, sym, ◌∙◌, subst}
use Rattle.std.specs.Prelude.{Err, IfNone, IfOk, IfSome, Ok, Result}
use Rattle.std.specs.List.{list_all}
use Rattle.std.proofs.lemmas.Option.{none-some, same_Some}
use Rattle.gov_ids.specs.declared.ActionId.{ActionId}
use Rattle.gov_ids.specs.declared.Voter.{Voter}
use Rattle.gov_actions.specs.declared.action.Proposal.{Proposal}
use Rattle.gov_actions.specs.declared.action.Vote.{Vote}
use Rattle.gov_model.specs.Ratified.{ids_of, is_one_of}
use Rattle.checkpoint_lists.specs.Shown.{frozen_proposal_row}
use Rattle.checkpoint_model.specs.Resumable.{live_of, unvoted}
use Rattle.resume_checks.specs.Frozen.{IsFrozenOf, voted_of}
use Rattle.shown_lists.specs.Only.{IsOnly}
use Rattle.shown_lists.proofs.Present.{only_none}
use Rattle.proposal_rows.specs.Rows.{frozen_row}
use Rattle.proposal_rows.proofs.LiveTells.{all_true}
use Rattle.proposal_rows.proofs.VoteTells.{TheVotes, VoteRow, rows_on}

abbrev Voted : Type 0
Voted = ActionId × List (Voter × Vote)

abbrev FrozenRow : Type 0
FrozenRow = ActionId × List VoteRow

-- ---- the id and votes of a row

module _ (r : FrozenRow) where
  abbrev pub TheOne : Option Voted → Type 0
  TheOne found = IsOnly (λ (v : Voted). true ≡ true) frozen_row r found

  votes_shown : (x : Voted) → frozen_row x ≡ r → rows_on r.0 x.1 ≡ r.1
  votes_shown x e = subst (λ (t : FrozenRow). rows_on t.0 x.1 ≡ t.1) e refl

  -- a vote is on another proposal
  pub no_voted : TheVotes r.0 r.1 None → TheOne None
  no_voted none =
      only_none (λ (v : Voted). true ≡ true) frozen_row r (λ x k e. none-some x.1 (none.all x.1 tt (votes_shown x e)))

  -- all are on it
  pub voted_only : (votes : List (Voter × Vote)) → TheVotes r.0 r.1 (Some votes) → TheOne (Some (r.0, votes))
  voted_only votes only = record {
    kind = λ x e. refl;
    some = λ x e. ap frozen_row (sym (same_Some (r.0, votes) x e)) ∙ (λ i. (r.0, only.some votes refl i));
    all = λ x k e.
        let same : votes ≡ x.1 = same_Some votes x.1 (only.all x.1 tt (votes_shown x e)) in
        let back : r ≡ frozen_row x = sym e in
        λ i. Some ((back i).0, same i);
  }

-- ---- ids and votes tell frozen proposals

rows_of_voted : (ps : List Proposal) → map frozen_row (map voted_of ps) ≡ map frozen_proposal_row ps
rows_of_voted [] = refl
rows_of_voted (p ∷ ps) = ap (λ (l : List FrozenRow). frozen_proposal_row p ∷ l) (rows_of_voted ps)

ids_of_voted : (ps : List Proposal) → map (λ (v : Voted). v.0) (map voted_of ps) ≡ ids_of ps
ids_of_voted [] = refl
ids_of_voted (p ∷ ps) = ap (λ (l : List ActionId). p.id ∷ l) (ids_of_voted ps)

same_parts : (ps qs : List Proposal) → map unvoted ps ≡ map unvoted qs → map voted_of ps ≡ map voted_of qs → ps ≡ qs
same_parts [] [] u v = refl
same_parts [] (q ∷ qs) u v = cc
same_parts (p ∷ ps) [] u v = cc
same_parts (p ∷ ps) (q ∷ qs) u v =
    let bare : unvoted p ≡ unvoted q = cc in
    let voted : voted_of p ≡ voted_of q = cc in
    let bare_rest : map unvoted ps ≡ map unvoted qs = cc in
    let voted_rest : map voted_of ps ≡ map voted_of qs = cc in
    λ i. record (bare i) { votes = (voted i).1 } ∷ same_parts ps qs bare_rest voted_rest i

same_frozen : (live : List Proposal) (voted : List Voted) (ps qs : List Proposal) → IsFrozenOf live voted ps → IsFrozenOf live voted qs → ps ≡ qs
same_frozen live voted ps qs f g =
    let told : map voted_of ps ≡ map voted_of qs = f.told ∙ sym g.told in
    let ids : ids_of ps ≡ ids_of qs = sym (ids_of_voted ps) ∙ ap (map (λ (v : Voted). v.0)) told ∙ ids_of_voted qs in
    same_parts ps qs (sym f.kept ∙ ap (λ (l : List ActionId). map unvoted (filter (is_one_of l) live)) ids ∙ g.kept) told

-- ---- what is found

module _ (live : List Proposal) (rows : List FrozenRow) where
  abbrev pub TheVoted : Option (List Voted) → Type 0
  TheVoted found = IsOnly (λ (vs : List Voted). list_all (λ (v : Voted). true) vs ≡ true) (map frozen_row) rows found

  abbrev pub TheFrozen : Option (List Proposal) → Type 0
  TheFrozen found = IsOnly (λ (ps : List Proposal). map unvoted (live_of ps live) ≡ map unvoted ps) (map frozen_proposal_row) rows found

  found_voted : (found : Option (List Voted)) → TheVoted found → (ps : List Proposal) → map frozen_proposal_row ps ≡ rows → found ≡ Some (map voted_of ps)
  found_voted found only ps e = only.all (map voted_of ps) (all_true (map voted_of ps)) (rows_of_voted ps ∙ e)

  -- the rows show no ids and votes
  pub none_voted : TheVoted None → TheFrozen None
  none_voted only =
      only_none (λ (ps : List Proposal). map unvoted (live_of ps live) ≡ map unvoted ps) (map frozen_proposal_row) rows
      (λ x k e. none-some (map voted_of x) (found_voted None only x e))

  module _ (voted : List Voted) (only : TheVoted (Some voted)) where
    frozen_from : (x : List Proposal) → map unvoted (live_of x live) ≡ map unvoted x → map frozen_proposal_row x ≡ rows → IsFrozenOf live voted x
    frozen_from x k e = record { told = sym (same_Some voted (map voted_of x) (found_voted (Some voted) only x e)); kept = k }

    -- no proposals have these ids and votes
    pub none_frozen : ((ps : List Proposal) → IsFrozenOf live voted ps → ⊥) → TheFrozen None
    none_frozen never =
        only_none (λ (ps : List Proposal). map unvoted (live_of ps live) ≡ map unvoted ps) (map frozen_proposal_row) rows
        (λ x k e. never x (frozen_from x k e))

    -- these have them
    pub frozen_only : (ps : List Proposal) → IsFrozenOf live voted ps → TheFrozen (Some ps)
    frozen_only ps f = record {
      kind = λ x e. subst (λ (l : List Proposal). map unvoted (live_of l live) ≡ map unvoted l) (same_Some ps x e) f.kept;
      some = λ x e. ap (map frozen_proposal_row) (sym (same_Some ps x e)) ∙ sym (rows_of_voted ps) ∙ ap (map frozen_row) f.told ∙ only.some voted refl;
      all = λ x k e. ap Some (same_frozen live voted ps x f (frozen_from x k e));
    }

    -- either way
    pub found_only : {V E : Type 0} (items : V → List Proposal) (r : Result (Option V) E) → IfOk r (λ o. IfSome o (λ v. IsFrozenOf live voted (items v)))
        → IfOk r (λ o. IfNone o ((ps : List Proposal) → IsFrozenOf live voted ps → ⊥)) → IfOk r (λ o. TheFrozen (option_map items o))
    found_only items (Ok (Some v)) some none = frozen_only (items v) some
    found_only items (Ok None) some none = none_frozen none
    found_only items (Err e) some none = tt

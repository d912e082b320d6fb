-- The votes that rows show.
use Rattle.std.proofs.Common.{◌≡◌, Bool, true, false, List, [], ◌∷◌, Option, Some, None, map, refl, ap, sym, ◌∙◌}
use Rattle.std.specs.Bool.{⊤}
use Rattle.std.specs.List.{list_all}
use Rattle.std.proofs.lemmas.Bool.{and_from, and_parts, false≢true}
use Rattle.std.proofs.lemmas.Cmp.{eq_by_cmp_equiv}
use Rattle.std.proofs.lemmas.Option.{same_Some}
use Rattle.gov_ids.specs.declared.ActionId.{ActionId}
use Rattle.gov_ids.specs.declared.Voter.{Voter}
use Rattle.gov_ids.specs.Same.{same_action}
use Rattle.gov_ids.proofs.Exacts.{action_id_exact}
use Rattle.gov_ids.proofs.Totals.{action_id_total}
use Rattle.maps.proofs.Ties.{same_key}
use Rattle.gov_actions.specs.declared.action.Vote.{Vote}
use Rattle.shown_lists.specs.Only.{IsOnly}
use Rattle.shown_lists.proofs.Present.{only_none}

-- a vote, with the id of its proposal
abbrev pub VoteRow : Type 0
VoteRow = ActionId × (Voter × Vote)

module _ (id : ActionId) where
  -- the rows of votes on the proposal of this id
  abbrev pub rows_on : List (Voter × Vote) → List VoteRow
  rows_on vs = map (λ (v : Voter × Vote). (id, v)) vs

  -- the votes of rows
  abbrev pub casts : List VoteRow → List (Voter × Vote)
  casts rs = map (λ (r : VoteRow). r.1) rs

  abbrev pub are_on : List VoteRow → Bool
  are_on rs = list_all (λ (r : VoteRow). same_action r.0 id) rs

  abbrev pub TheVotes : List VoteRow → Option (List (Voter × Vote)) → Type 0
  TheVotes rs found = IsOnly (λ (vs : List (Voter × Vote)). ⊤) (map (λ (v : Voter × Vote). (id, v))) rs found

  shown : (rs : List VoteRow) → are_on rs ≡ true → rows_on (casts rs) ≡ rs
  shown [] h = refl
  shown (r ∷ rs) h =
      let both = and_parts (same_action r.0 id) (are_on rs) h in
      λ i. (sym (same_key action_id_exact r.0 id both.0) i, r.1) ∷ shown rs both.1 i

  all_on : (vs : List (Voter × Vote)) → are_on (rows_on vs) ≡ true
  all_on [] = refl
  all_on (v ∷ vs) = and_from (same_action id id) (are_on (rows_on vs)) ((eq_by_cmp_equiv action_id_total).refl id) (all_on vs)

  back : (vs : List (Voter × Vote)) → casts (rows_on vs) ≡ vs
  back [] = refl
  back (v ∷ vs) = ap (λ (l : List (Voter × Vote)). v ∷ l) (back vs)

  -- all are on it
  pub votes_only : (rs : List VoteRow) → are_on rs ≡ true → TheVotes rs (Some (casts rs))
  votes_only rs h = record {
    kind = λ x e. tt;
    some = λ x e. ap rows_on (sym (same_Some (casts rs) x e)) ∙ shown rs h;
    all = λ x k e. ap Some (ap casts (sym e) ∙ back x);
  }

  -- one is on another
  pub no_votes : (rs : List VoteRow) → are_on rs ≡ false → TheVotes rs None
  no_votes rs h =
      only_none (λ (vs : List (Voter × Vote)). ⊤) (map (λ (v : Voter × Vote). (id, v))) rs
      (λ x k e. false≢true (sym h ∙ ap are_on (sym e) ∙ all_on x))

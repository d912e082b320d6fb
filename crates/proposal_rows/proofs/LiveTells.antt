-- The proposals that rows show with their actions.
use Rattle.std.proofs.Common.{◌≡◌, ◌⊎◌, inl, inr, true, List, [], ◌∷◌, ◌++◌, Option, Some, None, length, map, zip, refl, ap, sym, ◌∙◌, subst}
use Rattle.std.specs.Bool.{⊤}
use Rattle.std.specs.List.{list_all}
use Rattle.std.proofs.lemmas.Option.{none-some, same_Some}
use Rattle.std.proofs.lemmas.Slice.Zip.{firsts-zip, seconds-zip}
use Rattle.gov_ids.specs.declared.ActionId.{ActionId}
use Rattle.gov_ids.specs.declared.Voter.{Voter}
use Rattle.gov_actions.specs.declared.action.Action.{Action}
use Rattle.gov_actions.specs.declared.action.Proposal.{Proposal}
use Rattle.gov_actions.specs.declared.action.Vote.{Vote}
use Rattle.state_kinds.specs.declared.proposals.ProposalRow.{ProposalRow}
use Rattle.checkpoint_lists.specs.Shown.{proposal_row}
use Rattle.row_items.proofs.SoFar.{IsSoFar, all_found, none_found, so_far_more}
use Rattle.shown_lists.specs.Only.{IsOnly}
use Rattle.shown_lists.proofs.Present.{only_none}
use Rattle.proposal_rows.specs.Rows.{IsActionOf, VotedRow, action_row, all_rows, whole_row}
use Rattle.proposal_rows.proofs.VoteTells.{TheVotes, VoteRow, rows_on}

abbrev ActionRow : Type 0
ActionRow = ActionId × Action

abbrev Row : Type 0
Row = VotedRow × ActionRow

-- ---- one proposal

abbrev pub TheProposal : Row → Option Proposal → Type 0
TheProposal r found = IsOnly (λ (p : Proposal). true ≡ true) whole_row r found

module _ (r : ProposalRow) (vs : List VoteRow) (a : ActionRow) where
  votes_shown : (x : Proposal) → whole_row x ≡ ((r, vs), a) → rows_on r.id x.votes ≡ vs
  votes_shown x e = subst (λ (t : Row). rows_on t.0.0.id x.votes ≡ t.0.1) e refl

  -- a vote is on another one
  pub other_votes : TheVotes r.id vs None → TheProposal ((r, vs), a) None
  other_votes none =
      only_none (λ (p : Proposal). true ≡ true) whole_row ((r, vs), a) (λ x k e. none-some x.votes (none.all x.votes tt (votes_shown x e)))

  -- the proposal of the row, with its action and votes
  pub proposal_only : IsActionOf r a → (cast : List (Voter × Vote)) → TheVotes r.id vs (Some cast)
      → TheProposal ((r, vs), a) (Some (record { id = r.id; action = a.1; deposit = r.deposit; account = r.account; expires_after = r.expires_after; votes = cast }))
  proposal_only is cast only =
      let made : Proposal = record { id = r.id; action = a.1; deposit = r.deposit; account = r.account; expires_after = r.expires_after; votes = cast } in
      record {
        kind = λ x e. refl;
        some = λ x e. ap whole_row (sym (same_Some made x e)) ∙ (λ i. ((record r { kind = is.kind i; previous = is.previous i }, only.some cast refl i), (sym is.id i, a.1)));
        all = λ x k e.
            let votes : cast ≡ x.votes = same_Some cast x.votes (only.all x.votes tt (votes_shown x e)) in
            let back : ((r, vs), a) ≡ whole_row x = sym e in
            λ i. Some (record {
              id = (back i).0.0.id;
              action = (back i).1.1;
              deposit = (back i).0.0.deposit;
              account = (back i).0.0.account;
              expires_after = (back i).0.0.expires_after;
              votes = votes i;
            });
      }

-- ---- all of two lists

-- all are made again
pub all_true : {A : Type 0} (xs : List A) → list_all (λ (x : A). true) xs ≡ true
all_true [] = refl
all_true (x ∷ xs) = all_true xs

pairs : (ps : List Proposal) → zip (map proposal_row ps) (map action_row ps) ≡ map whole_row ps
pairs [] = refl
pairs (p ∷ ps) = ap (λ (l : List Row). whole_row p ∷ l) (pairs ps)

firsts : (ps : List Proposal) → map (λ (t : Row). t.0) (map whole_row ps) ≡ map proposal_row ps
firsts [] = refl
firsts (p ∷ ps) = ap (λ (l : List VotedRow). proposal_row p ∷ l) (firsts ps)

seconds : (ps : List Proposal) → map (λ (t : Row). t.1) (map whole_row ps) ≡ map action_row ps
seconds [] = refl
seconds (p ∷ ps) = ap (λ (l : List ActionRow). action_row p ∷ l) (seconds ps)

-- one of two lists is at its end
none_left : {A B : Type 0} (xs : List A) (ys : List B) → (xs ≡ []) ⊎ (ys ≡ []) → zip xs ys ≡ []
none_left [] ys ended = refl
none_left (x ∷ xs) [] ended = refl
none_left (x ∷ xs) (y ∷ ys) ended = elim ended [ inl h ↦ cc | inr h ↦ cc ]

module _ (rows : List VotedRow) (actions : List ActionRow) where
  abbrev pub TheProposals : Option (List Proposal) → Type 0
  TheProposals found = IsOnly (λ (ps : List Proposal). ⊤) all_rows (rows, actions) found

  -- what the pairs show, both lists show
  both_show : length actions ≡ length rows → (found : Option (List Proposal)) → IsOnly (λ (ps : List Proposal). list_all (λ (p : Proposal). true) ps ≡ true) (map whole_row) (zip rows actions) found → TheProposals found
  both_show same found only = record {
    kind = λ x e. tt;
    some = λ x e.
        let shown : map whole_row x ≡ zip rows actions = only.some x e in
        let rows_are : map proposal_row x ≡ rows = sym (firsts x) ∙ ap (map (λ (t : Row). t.0)) shown ∙ firsts-zip rows actions same in
        let actions_are : map action_row x ≡ actions = sym (seconds x) ∙ ap (map (λ (t : Row). t.1)) shown ∙ seconds-zip rows actions same in
        λ i. (rows_are i, actions_are i);
    all = λ x k e. only.all x (all_true x) (sym (pairs x) ∙ ap (λ (t : List VotedRow × List ActionRow). zip t.0 t.1) e);
  }

  -- ---- one pair after another

  -- these are shown by the pairs so far, and these rows and actions are left
  abbrev pub IsFound : List Proposal → List VotedRow → List ActionRow → Type 0
  IsFound found rs acts = IsSoFar (λ (p : Proposal). true) whole_row (zip rows actions) found (zip rs acts)

  module _ (found : List Proposal) (rs left : List VotedRow) (acts others : List ActionRow) (r : VotedRow) (a : ActionRow)
      (next : (rs ≡ r ∷ left) × (acts ≡ a ∷ others)) (so : IsFound found rs acts) where
    first_left : IsSoFar (λ (p : Proposal). true) whole_row (zip rows actions) found ((r, a) ∷ zip left others)
    first_left = subst (IsSoFar (λ (p : Proposal). true) whole_row (zip rows actions) found) (λ i. zip (next.0 i) (next.1 i)) so

    -- the next pair shows one more
    pub one_more : (p : Proposal) → TheProposal (r, a) (Some p) → IsFound (found ++ p ∷ []) left others
    one_more p only = so_far_more (λ (q : Proposal). true) whole_row (zip rows actions) found p (r, a) (zip left others) first_left only

    -- the next pair shows none: nor do the lists
    pub none_next : length actions ≡ length rows → TheProposal (r, a) None → TheProposals None
    none_next same only = both_show same None (none_found (λ (q : Proposal). true) whole_row (zip rows actions) found (r, a) (zip left others) first_left only)

  -- no pair is left
  pub all_shown : length actions ≡ length rows → (found : List Proposal) (rs : List VotedRow) (acts : List ActionRow) → (rs ≡ []) ⊎ (acts ≡ []) → IsFound found rs acts → TheProposals (Some found)
  all_shown same found rs acts ended so =
      both_show same (Some found)
      (all_found (λ (p : Proposal). true) whole_row (zip rows actions) found
      (subst (IsSoFar (λ (p : Proposal). true) whole_row (zip rows actions) found) (none_left rs acts ended) so))

-- The votes without those of DReps that leave, one DRep after another.
use Rattle.std.proofs.Common.{◌≡◌, ℕ, ◌+◌, ◌<◌, List, length, get_or, drop, [], ◌∷◌, Bool, true, false, not, ◌||◌, cond, map, Option, Some, None, ◌≤◌, refl, ap, sym, ◌∙◌}
use Rattle.std.proofs.Math.ListN.{drop_of_length-le}
use Rattle.std.specs.Ordering.{eq_by_cmp}
use Rattle.std.proofs.lemmas.Cmp.{eq_by_cmp_equiv}
use Rattle.std.proofs.lemmas.List.{at_drop_more}
use Rattle.std.proofs.lemmas.Map.Entries.{option_filter}
use Rattle.gov_actions.specs.declared.action.Vote.{Vote}
use Rattle.gov_ids.specs.declared.Credential.{Credential}
use Rattle.gov_ids.specs.declared.Voter.{Voter}
use Rattle.gov_ids.specs.declared.Voter.TheVariants as voter
use Rattle.gov_ids.specs.Orders.{credential_cmp, voter_cmp}
use Rattle.gov_ids.proofs.Exacts.{voter_exact}
use Rattle.gov_ids.proofs.Totals.{credential_total, voter_total}
use Rattle.maps.proofs.Kept.{IsMap-entries_where, IsMap-without_key}
use Rattle.maps.proofs.Lookups.{value_at-entries_where, value_at-without_key}
use Rattle.maps.proofs.Retained.{entries_where_all}
use Rattle.maps.proofs.Same.{map_from_value_at}
use Rattle.maps.specs.Maps.{IsMap, entries_where, has_member, value_at, without_key}
use Rattle.gov_actions.specs.declared.action.Proposal.{Proposal}
use Rattle.gov_model.specs.Proposals.{without_vote}
use Rattle.proposal_store.specs.Leaving.{is_drep_among, without_those_of, without_votes_of}
use Rattle.proposal_store.specs.Store.{AllOrdered}

-- the vote stays
abbrev pub stays : List Credential → Voter → Vote → Bool
stays dreps v x = not (is_drep_among dreps v)

abbrev is_voter : Credential → Voter → Bool
is_voter c v = eq_by_cmp voter_cmp (voter.Drep c) v

-- these are those and c
abbrev pub IsOneMore : Credential → List Credential → List Credential → Type 0
IsOneMore c dreps more = (q : Credential) → has_member credential_cmp more q ≡ (eq_by_cmp credential_cmp c q || has_member credential_cmp dreps q)

filtered_by : (b m : Bool) (o : Option Vote) → option_filter (λ (x : Vote). not (b || m)) o ≡ cond b None (option_filter (λ (x : Vote). not m) o)
filtered_by true m None = refl
filtered_by true m (Some x) = refl
filtered_by false m o = refl

filtered : (c : Credential) (dreps more : List Credential) → IsOneMore c dreps more → (v : Voter) (o : Option Vote)
    → option_filter (stays more v) o ≡ cond (is_voter c v) None (option_filter (stays dreps v) o)
filtered c dreps more h (voter.Committee q) o = refl
filtered c dreps more h (voter.Drep q) o =
    ap (λ b. option_filter (λ (x : Vote). not b) o) (h q) ∙ filtered_by (eq_by_cmp credential_cmp c q) (has_member credential_cmp dreps q) o
filtered c dreps more h (voter.Pool q) o = refl

under_test : (p : Vote → Bool) (b : Bool) (o : Option Vote) → option_filter p (cond b None o) ≡ cond b None (option_filter p o)
under_test p true o = refl
under_test p false o = refl

module _ (c : Credential) (dreps more : List Credential) (h : IsOneMore c dreps more) (votes : List (Voter × Vote)) (m : IsMap voter_cmp votes) where
  kept_at : (v : Voter) → value_at voter_cmp (entries_where (stays more) votes) v ≡ cond (is_voter c v) None (option_filter (stays dreps v) (value_at voter_cmp votes v))
  kept_at v = value_at-entries_where voter_total voter_exact (stays more) votes v m ∙ filtered c dreps more h v (value_at voter_cmp votes v)

  -- at the end
  pub votes_after : entries_where (stays more) votes ≡ without_key voter_cmp (voter.Drep c) (entries_where (stays dreps) votes)
  votes_after =
      let before : IsMap voter_cmp (entries_where (stays dreps) votes) = IsMap-entries_where voter_cmp (stays dreps) votes m in
      map_from_value_at voter_total voter_exact _ _ (IsMap-entries_where voter_cmp (stays more) votes m) (IsMap-without_key voter_cmp (voter.Drep c) (entries_where (stays dreps) votes) before)
      (λ v. kept_at v
      ∙ ap (λ (o : Option Vote). cond (is_voter c v) None o) (sym (value_at-entries_where voter_total voter_exact (stays dreps) votes v m))
      ∙ sym (value_at-without_key voter_total (voter.Drep c) (entries_where (stays dreps) votes) v before))

  -- at the start
  pub votes_before : entries_where (stays more) votes ≡ entries_where (stays dreps) (without_key voter_cmp (voter.Drep c) votes)
  votes_before =
      let fewer : IsMap voter_cmp (without_key voter_cmp (voter.Drep c) votes) = IsMap-without_key voter_cmp (voter.Drep c) votes m in
      map_from_value_at voter_total voter_exact _ _ (IsMap-entries_where voter_cmp (stays more) votes m) (IsMap-entries_where voter_cmp (stays dreps) (without_key voter_cmp (voter.Drep c) votes) fewer)
      (λ v. kept_at v
      ∙ sym (under_test (stays dreps v) (is_voter c v) (value_at voter_cmp votes v))
      ∙ ap (λ (o : Option Vote). option_filter (stays dreps v) o) (sym (value_at-without_key voter_total (voter.Drep c) votes v m))
      ∙ sym (value_at-entries_where voter_total voter_exact (stays dreps) (without_key voter_cmp (voter.Drep c) votes) v fewer))

none_among : (v : Voter) → is_drep_among [] v ≡ false
none_among (voter.Committee q) = refl
none_among (voter.Drep q) = refl
none_among (voter.Pool q) = refl

-- where none leaves all votes stay
pub all_stay : (votes : List (Voter × Vote)) → without_those_of [] votes ≡ votes
all_stay votes = (λ i. entries_where (λ v x. not (none_among v i)) votes) ∙ entries_where_all votes

module _ (dreps : List Credential) (i : ℕ) (d : Credential) (votes : List (Voter × Vote)) (l : i < length dreps) (m : IsMap voter_cmp votes) where
  -- the DRep at the place i
  abbrev here : Credential
  here = get_or dreps i d

  -- it leaves, and then the later ones
  leaves : without_those_of (drop (i + 1) dreps) (without_key voter_cmp (voter.Drep here) votes) ≡ without_those_of (drop i dreps) votes
  leaves =
      let rest = drop (i + 1) dreps in
      sym (
      at_drop_more (λ (left : List Credential). without_those_of left votes) dreps i d l
      ∙ votes_before here rest (here ∷ rest) (λ q. ap (λ b. b || has_member credential_cmp rest q) ((eq_by_cmp_equiv credential_total).symm q here)) votes m
      )

-- no DRep is left
done : (dreps : List Credential) (i : ℕ) (votes : List (Voter × Vote)) → length dreps ≤ i → without_those_of (drop i dreps) votes ≡ votes
done dreps i votes h = ap (λ (ks : List Credential). without_those_of ks votes) (drop_of_length-le dreps h) ∙ all_stay votes

-- the votes of the DRep at the place i leave all proposals, and then those of the later ones
pub leave_next : (dreps : List Credential) (i : ℕ) (d : Credential) → i < length dreps → (ps : List Proposal) → AllOrdered ps
    → map (without_votes_of (drop (i + 1) dreps)) (map (without_vote (voter.Drep (get_or dreps i d))) ps) ≡ map (without_votes_of (drop i dreps)) ps
leave_next dreps i d l [] o = refl
leave_next dreps i d l (p ∷ ps) o = λ j. record p { votes = leaves dreps i d p.votes l o.0 j } ∷ leave_next dreps i d l ps o.1 j

pub leave_done : (dreps : List Credential) (i : ℕ) → length dreps ≤ i → (ps : List Proposal) → map (without_votes_of (drop i dreps)) ps ≡ ps
leave_done dreps i h [] = refl
leave_done dreps i h (p ∷ ps) = λ j. record p { votes = done dreps i p.votes h j } ∷ leave_done dreps i h ps j

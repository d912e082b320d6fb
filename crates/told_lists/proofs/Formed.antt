-- Items whose lines have their forms have the form of the formats.
use Rattle.std.proofs.Common.{◌≡◌, ℕ, List, [], ◌∷◌, ◌++◌, Bool, true, false, ◌&&◌, ◌||◌, not, map, nat_lt, Option, Some, None, is_some, option_map, option_to_list, refl, ap, sym, ◌∙◌, subst}
use Rattle.std.specs.List.{list_all, list_any}
use Rattle.std.specs.Map.{keys_of}
use Rattle.std.proofs.lemmas.Bool.{and_from, and_parts, false≢true}
use Rattle.std.proofs.lemmas.List.Folds.{list_all-map}
use Rattle.maps.specs.Maps.{has_key, has_member, in_order, value_at}
use Rattle.maps.specs.Words.{none_or}
use Rattle.maps.proofs.Sets.{has_member-in_order}
use Rattle.maps.proofs.Ties.{same_key}
use Rattle.gov_ids.specs.declared.Account.{Account}
use Rattle.gov_ids.specs.declared.ActionId.{ActionId}
use Rattle.gov_ids.specs.declared.Credential.{Credential}
use Rattle.gov_ids.specs.declared.OutRef.{OutRef}
use Rattle.gov_ids.specs.declared.PoolId.{PoolId}
use Rattle.gov_ids.specs.declared.Voter.{Voter}
use Rattle.gov_ids.specs.Orders.{asset_cmp, credential_cmp, pool_cmp, voter_cmp}
use Rattle.gov_ids.specs.Same.{same_credential}
use Rattle.gov_ids.proofs.Exacts.{credential_exact, pool_exact}
use Rattle.gov_ids.proofs.Totals.{credential_total, pool_total}
use Rattle.book_records.specs.declared.Output.{Output}
use Rattle.book_records.specs.declared.pool.Pool.{Pool}
use Rattle.book_records.specs.declared.pool.PoolTerms.{PoolTerms}
use Rattle.book_records.specs.declared.Registered.{Registered}
use Rattle.gov_actions.specs.declared.action.Proposal.{Proposal}
use Rattle.gov_actions.specs.declared.action.Vote.{Vote}
use Rattle.gov_actions.specs.declared.state.Committee.{Committee}
use Rattle.gov_actions.specs.declared.state.HotState.{HotState}
use Rattle.text_forms.specs.of_gov_model.Hot.{is_member as is_seated}
use Rattle.text_forms.specs.of_gov_model.Sides.{members_of}
use Rattle.text_forms.specs.of_ledger_model.Ledger.{Ledger, account_at, is_account, output_stake}
use Rattle.text_forms.specs.of_run_model.Freeze.{entries_of, frozen_credentials, stake_parts}
use Rattle.tx_records.specs.Limits.{is_slot, is_u64}
use Rattle.text_forms.specs.Actions.{is_action, is_member, is_proposal, is_vote}
use Rattle.text_forms.specs.Books as books
use Rattle.text_forms.specs.Ids.{is_account_id, is_action_id, is_credential, is_map, is_pool_id, is_unit}
use Rattle.text_forms.specs.States.{is_committee}
use Rattle.text_forms.specs.of_text_model.StateLines.{hot_outside}
use Rattle.checkpoint_model.specs.Resumable.{live_of, unvoted}
use Rattle.resume_checks.specs.Forms.{are_accounts_of}
use Rattle.resume_checks.proofs.Ordered.{set_from_rising}
use Rattle.book_kinds.specs.Books.{is_vote_line}
use Rattle.book_kinds.specs.Frozen.{is_pool_account_line}
use Rattle.book_kinds.specs.Outputs.{is_output_line}
use Rattle.book_kinds.specs.Pools.{is_next_line, is_pool_line}
use Rattle.state_kinds.specs.Proposals.{is_proposal_line, row_of}
use Rattle.state_kinds.specs.States.{is_member_line}
use Rattle.action_kinds.specs.Lines.{is_action_line}
use Rattle.checkpoint_lists.specs.Rows.{are_rows}
use Rattle.checkpoint_lists.specs.Shown.{frozen_proposal_row, member_row, output_row, pool_row, proposal_row, vote_rows}
use Rattle.checkpoint_reader.specs.Gathered.{action_row}
use Rattle.shown_lists.specs.Shows.{pools_shown}
use Rattle.book_rows.specs.Assets.{are_assets}
use Rattle.told_lists.specs.Told.{have_votes_in_order}
use Rattle.told_lists.proofs.Each.{at_key, at_member, each_at, each_by, each_filtered, each_from, each_passing, member_key, passes}

-- ---- outputs

output_formed : (o : OutRef × Output) → are_rows is_output_line books.is_held_asset (output_row o) ≡ true → are_assets o.1.assets ≡ true → books.is_output o ≡ true
output_formed o row assets =
    let r = and_parts (is_output_line (o.0, (o.1.address, o.1.lovelace))) (list_all books.is_held_asset o.1.assets) row in
    let a = and_parts (is_map asset_cmp o.1.assets) _ assets in
    and_from _ _ r.0 (and_from (is_map asset_cmp o.1.assets) (list_all books.is_held_asset o.1.assets) a.0 r.1)

pub outputs_formed : (os : List (OutRef × Output)) → list_all (are_rows is_output_line books.is_held_asset) (map output_row os) ≡ true → list_all (λ o. are_assets o.1.assets) os ≡ true → list_all books.is_output os ≡ true
outputs_formed os rows assets =
    each_by (λ (o : OutRef × Output). are_rows is_output_line books.is_held_asset (output_row o)) (λ (o : OutRef × Output). are_assets o.1.assets) books.is_output output_formed os
    (sym (list_all-map (are_rows is_output_line books.is_held_asset) output_row os) ∙ rows) assets

-- ---- pools

future_formed : (id : PoolId) (o : Option PoolTerms) → list_all is_next_line (map (λ (t : PoolTerms). (id, t)) (option_to_list o)) ≡ true → none_or books.are_terms o ≡ true
future_formed id None h = refl
future_formed id (Some t) h = (and_parts (is_pool_id id) (books.are_terms t) (and_parts (is_next_line (id, t)) true h).0).1

pool_formed : (p : PoolId × Pool) → are_rows is_pool_line is_next_line (pool_row p) ≡ true → books.is_pool p ≡ true
pool_formed p row =
    let r = and_parts (is_pool_line (p.0, record p.1 { future = None })) (list_all is_next_line (map (λ (t : PoolTerms). (p.0, t)) (option_to_list p.1.future))) row in
    let l = and_parts (books.is_pool (p.0, record p.1 { future = None })) true r.0 in
    let a = and_parts _ (none_or is_u64 p.1.retires) l.0 in
    let b = and_parts _ true a.0 in
    and_from _ _ (and_from _ _ b.0 (future_formed p.0 p.1.future r.1)) a.1

pub pools_formed : (ps : List (PoolId × Pool)) → list_all (are_rows is_pool_line is_next_line) (map pool_row ps) ≡ true → list_all books.is_pool ps ≡ true
pools_formed ps rows =
    each_from (λ (p : PoolId × Pool). are_rows is_pool_line is_next_line (pool_row p)) books.is_pool pool_formed ps (sym (list_all-map (are_rows is_pool_line is_next_line) pool_row ps) ∙ rows)

-- ---- accounts

module _ (l : Ledger) where
  -- the entry of a credential has its form
  abbrev has_entry : Credential → Bool
  has_entry c = books.is_entry (c, record { stake = output_stake l c; registered = account_at l c })

  -- it is registered or has output stake
  abbrev is_counted : Credential → Bool
  is_counted c = is_account l c || nat_lt 0 (output_stake l c)

  -- in their order
  abbrev named : List Credential
  named = in_order credential_cmp (map (λ (e : Credential × Registered). e.0) l.accounts ++ stake_parts l)

  entry_at : list_all books.is_entry (entries_of l) ≡ true → (k : Credential) → has_key credential_cmp l.accounts k ≡ true → has_entry k ≡ true
  entry_at h k has =
      let each : list_all has_entry (frozen_credentials l) ≡ true =
      sym (list_all-map books.is_entry (λ (c : Credential). (c, record { stake = output_stake l c; registered = account_at l c })) (frozen_credentials l)) ∙ h in
      let there : has_member credential_cmp named k ≡ true =
      has_member-in_order credential_total (map (λ (e : Credential × Registered). e.0) l.accounts ++ stake_parts l) k ∙ member_key credential_cmp l.accounts (stake_parts l) k has in
      let counted : is_counted k ≡ true = ap (λ (b : Bool). b || nat_lt 0 (output_stake l k)) has in
      passes (is_counted k) (has_entry k) (at_member credential_exact (λ c. not (is_counted c) || has_entry c) named k (each_passing has_entry is_counted named each) there) counted

  account_at_key : list_all books.is_entry (entries_of l) ≡ true → (k : Credential) (r : Registered) → account_at l k ≡ Some r → books.is_account (k, r) ≡ true
  account_at_key h k r found =
      let e = entry_at h k (ap is_some found) in
      let a = and_parts (is_credential k && is_u64 (output_stake l k)) (none_or books.is_registration (account_at l k)) e in
      let b = and_parts (is_credential k) (is_u64 (output_stake l k)) a.0 in
      and_from (is_credential k) (books.is_registration r) b.0 (subst (λ (o : Option Registered). none_or books.is_registration o ≡ true) found a.1)

  pub accounts_formed : is_map credential_cmp l.accounts ≡ true → list_all books.is_entry (entries_of l) ≡ true → list_all books.is_account l.accounts ≡ true
  accounts_formed ordered h = each_at credential_total books.is_account l.accounts (set_from_rising credential_cmp (keys_of l.accounts) ordered) (account_at_key h)

-- ---- the committee and cold keys

module _ (hot : List (Credential × HotState)) where
  abbrev has_row : Credential × ℕ → Bool
  has_row m = is_member_line (member_row hot m)

  abbrev has_hot : Credential → Bool
  has_hot c = is_credential c && none_or books.is_hot_state (value_at credential_cmp hot c)

  members_formed : (ms : List (Credential × ℕ)) → list_all has_row ms ≡ true → list_all is_member ms ≡ true
  members_formed ms h = each_from has_row is_member (λ m r. (and_parts (is_member m) (none_or books.is_hot_state (value_at credential_cmp hot m.0)) r).0) ms h

  pub committee_formed : (o : Option Committee) → is_map credential_cmp (members_of o) ≡ true → none_or is_unit (option_map (λ c. c.threshold) o) ≡ true → list_all is_member_line (map (member_row hot) (members_of o)) ≡ true → none_or is_committee o ≡ true
  committee_formed None ordered threshold rows = refl
  committee_formed (Some c) ordered threshold rows =
      and_from _ _ (and_from _ _ ordered (members_formed c.members (sym (list_all-map is_member_line (member_row hot) c.members) ∙ rows))) threshold

  -- the cold key of a member
  row_hot : (m : Credential × ℕ) → has_row m ≡ true → has_hot m.0 ≡ true
  row_hot m r =
      let a = and_parts (is_member m) (none_or books.is_hot_state (value_at credential_cmp hot m.0)) r in
      let b = and_parts (is_credential m.0) (is_slot m.1) a.0 in
      and_from (is_credential m.0) (none_or books.is_hot_state (value_at credential_cmp hot m.0)) b.0 a.1

  of_member : (ms : List (Credential × ℕ)) (k : Credential) → list_all has_row ms ≡ true → list_any (λ m. same_credential m.0 k) ms ≡ true → has_hot k ≡ true
  of_member [] k all h = absurd (false≢true h)
  of_member (m ∷ ms) k all h =
      let both = and_parts (has_row m) (list_all has_row ms) all in
      elim (same_credential m.0 k) as (λ b. same_credential m.0 k ≡ b → (b || list_any (λ (m : Credential × ℕ). same_credential m.0 k) ms) ≡ true → has_hot k ≡ true) [
        | true ↦ λ t e. subst (λ (c : Credential). has_hot c ≡ true) (same_key credential_exact m.0 k t) (row_hot m both.0)
        | false ↦ λ t e. of_member ms k both.1 e
      ] refl h

  hot_at : (o : Option Committee) → list_all has_row (members_of o) ≡ true → (k : Credential) (x : HotState) → value_at credential_cmp hot k ≡ Some x → (not (is_seated o k) || books.is_hot (k, x)) ≡ true
  hot_at o rows k x found = elim (is_seated o k) as (λ b. is_seated o k ≡ b → (not b || books.is_hot (k, x)) ≡ true) [
    | true ↦ λ t.
        let a = and_parts (is_credential k) (none_or books.is_hot_state (value_at credential_cmp hot k)) (of_member (members_of o) k rows t) in
        and_from (is_credential k) (books.is_hot_state x) a.0 (subst (λ (h : Option HotState). none_or books.is_hot_state h ≡ true) found a.1)
    | false ↦ λ t. refl
  ] refl

  either : (m b : Bool) → (not m || b) ≡ true → (not (not m) || b) ≡ true → b ≡ true
  either true b h k = h
  either false b h k = k

  pub hot_formed : (o : Option Committee) → is_map credential_cmp hot ≡ true → list_all is_member_line (map (member_row hot) (members_of o)) ≡ true → list_all books.is_hot (hot_outside o hot) ≡ true → list_all books.is_hot hot ≡ true
  hot_formed o ordered rows outside =
      let each : list_all has_row (members_of o) ≡ true = sym (list_all-map is_member_line (member_row hot) (members_of o)) ∙ rows in
      each_by (λ (h : Credential × HotState). not (is_seated o h.0) || books.is_hot h) (λ (h : Credential × HotState). not (not (is_seated o h.0)) || books.is_hot h) books.is_hot (λ h a b. either (is_seated o h.0) (books.is_hot h) a b) hot
      (each_at credential_total (λ (h : Credential × HotState). not (is_seated o h.0) || books.is_hot h) hot (set_from_rising credential_cmp (keys_of hot) ordered) (hot_at o each))
      (each_passing books.is_hot (λ (h : Credential × HotState). not (is_seated o h.0)) hot outside)

-- ---- proposals

vote_formed : (id : ActionId) (vs : List (Voter × Vote)) → list_all is_vote_line (map (λ (v : Voter × Vote). (id, v)) vs) ≡ true → list_all is_vote vs ≡ true
vote_formed id vs h =
    each_from (λ (v : Voter × Vote). is_vote_line (id, v)) is_vote (λ v r. (and_parts (is_action_id id) (is_vote v) r).1) vs (sym (list_all-map is_vote_line (λ (v : Voter × Vote). (id, v)) vs) ∙ h)

-- with votes in order
voted : (p : Proposal) → is_proposal (unvoted p) ≡ true → list_all is_vote p.votes ≡ true → is_map voter_cmp p.votes ≡ true → is_proposal p ≡ true
voted p h votes ordered =
    let a = and_parts _ true h in
    let b = and_parts _ true a.0 in
    and_from _ _ (and_from _ _ b.0 votes) ordered

-- without votes
unvoted_formed : (p : Proposal) → is_proposal p ≡ true → is_proposal (unvoted p) ≡ true
unvoted_formed p h =
    let a = and_parts _ (is_map voter_cmp p.votes) h in
    let b = and_parts _ (list_all is_vote p.votes) a.0 in
    and_from _ _ (and_from _ true b.0 refl) refl

-- by its row and its action
told : (p : Proposal) → is_proposal_line (row_of p) ≡ true → is_action_line (action_row p) ≡ true → is_proposal (unvoted p) ≡ true
told p row action =
    let a = and_parts _ _ row in
    let b = and_parts _ (is_u64 p.expires_after) a.0 in
    let c = and_parts _ (is_account_id p.account) b.0 in
    let d = and_parts (is_action_id p.id) (is_u64 p.deposit) c.0 in
    let e = and_parts (is_action_id p.id) (is_action p.action) action in
    and_from _ _ (and_from _ true (and_from _ _ (and_from _ _ (and_from _ _ (and_from _ _ e.0 e.1) d.1) c.1) b.1) refl) refl

abbrev has_rows : Proposal → Bool
has_rows p = are_rows is_proposal_line is_vote_line (proposal_row p) && is_action_line (action_row p)

proposal_formed : (p : Proposal) → has_rows p ≡ true → is_map voter_cmp p.votes ≡ true → is_proposal p ≡ true
proposal_formed p rows ordered =
    let a = and_parts (are_rows is_proposal_line is_vote_line (proposal_row p)) (is_action_line (action_row p)) rows in
    let r = and_parts (is_proposal_line (row_of p)) (list_all is_vote_line (vote_rows p)) a.0 in
    voted p (told p r.0 a.1) (vote_formed p.id p.votes r.1) ordered

pub proposals_formed : (ps : List Proposal) → list_all (are_rows is_proposal_line is_vote_line) (map proposal_row ps) ≡ true → list_all is_action_line (map action_row ps) ≡ true → have_votes_in_order ps ≡ true → list_all is_proposal ps ≡ true
proposals_formed ps rows actions ordered =
    each_by has_rows (λ (p : Proposal). is_map voter_cmp p.votes) is_proposal proposal_formed ps
    (each_by (λ (p : Proposal). are_rows is_proposal_line is_vote_line (proposal_row p)) (λ (p : Proposal). is_action_line (action_row p)) has_rows (λ p h k. and_from _ _ h k) ps
    (sym (list_all-map (are_rows is_proposal_line is_vote_line) proposal_row ps) ∙ rows) (sym (list_all-map is_action_line action_row ps) ∙ actions))
    ordered

-- the frozen ones are live ones with other votes
pub frozen_proposals_formed : (live ps : List Proposal) → list_all is_proposal live ≡ true → map unvoted (live_of ps live) ≡ map unvoted ps → list_all (are_rows is_action_id is_vote_line) (map frozen_proposal_row ps) ≡ true → have_votes_in_order ps ≡ true
    → list_all is_proposal ps ≡ true
frozen_proposals_formed live ps formed same rows ordered =
    let kept : list_all (λ (p : Proposal). is_proposal (unvoted p)) ps ≡ true =
    sym (list_all-map is_proposal unvoted ps) ∙ ap (list_all is_proposal) (sym same) ∙ list_all-map is_proposal unvoted (live_of ps live)
    ∙ each_filtered (λ (p : Proposal). is_proposal (unvoted p)) _ live (each_from is_proposal (λ (p : Proposal). is_proposal (unvoted p)) unvoted_formed live formed) in
    let votes : list_all (λ (p : Proposal). list_all is_vote p.votes) ps ≡ true =
    each_from (λ (p : Proposal). are_rows is_action_id is_vote_line (frozen_proposal_row p)) (λ (p : Proposal). list_all is_vote p.votes)
    (λ p r. vote_formed p.id p.votes (and_parts (is_action_id p.id) (list_all is_vote_line (vote_rows p)) r).1) ps (sym (list_all-map (are_rows is_action_id is_vote_line) frozen_proposal_row ps) ∙ rows) in
    each_by (λ (p : Proposal). is_proposal (unvoted p) && list_all is_vote p.votes) (λ (p : Proposal). is_map voter_cmp p.votes) is_proposal
    (λ p h k. let a = and_parts (is_proposal (unvoted p)) (list_all is_vote p.votes) h in voted p a.0 a.1 k) ps
    (each_by (λ (p : Proposal). is_proposal (unvoted p)) (λ (p : Proposal). list_all is_vote p.votes) (λ (p : Proposal). is_proposal (unvoted p) && list_all is_vote p.votes) (λ p h k. and_from _ _ h k) ps kept votes) ordered

-- ---- the reward accounts of pools of mark

module _ (mark : List (PoolId × ℕ)) (accounts : List (PoolId × Account)) where
  abbrev has_line : PoolId → Bool
  has_line p = is_pool_account_line (p, value_at pool_cmp accounts p)

  pub pool_accounts_formed : are_accounts_of mark accounts ≡ true → list_all is_pool_account_line (pools_shown mark accounts) ≡ true → list_all books.is_pool_account accounts ≡ true
  pool_accounts_formed of_mark rows =
      let a = and_parts (is_map pool_cmp accounts) (list_all (λ (p : PoolId × Account). has_key pool_cmp mark p.0) accounts) of_mark in
      let each : list_all (λ (m : PoolId × ℕ). has_line m.0) mark ≡ true = sym (list_all-map is_pool_account_line (λ (m : PoolId × ℕ). (m.0, value_at pool_cmp accounts m.0)) mark) ∙ rows in
      each_at pool_total books.is_pool_account accounts (set_from_rising pool_cmp (keys_of accounts) a.0)
      (λ k x found.
      let has : has_key pool_cmp mark k ≡ true = at_key pool_exact (λ p. has_key pool_cmp mark p) accounts k a.1 (ap is_some found) in
      let line = and_parts (is_pool_id k) (none_or is_account_id (value_at pool_cmp accounts k)) (at_key pool_exact has_line mark k each has) in
      and_from (is_pool_id k) (is_account_id x) line.0 (subst (λ (o : Option Account). none_or is_account_id o ≡ true) found line.1))

-- Where the lines of a snapshot have their form, its tests tell whether it is readable.
use Rattle.std.proofs.Common.{◌≡◌, true, ◌&&◌, List, [], ◌∷◌, Option, Some, None, map, nat_le, option_map, refl, subst}
use Rattle.std.specs.List.{list_all}
use Rattle.std.specs.Map.{keys_of}
use Rattle.std.proofs.lemmas.Bool.{and_from, and_parts}
use Rattle.gov_ids.specs.of_maps.Words.{none_or}
use Rattle.gov_ids.specs.declared.Account.{Account}
use Rattle.gov_ids.specs.declared.Credential.{Credential}
use Rattle.gov_ids.specs.declared.PoolId.{PoolId}
use Rattle.gov_ids.specs.declared.Voter.{Voter}
use Rattle.gov_ids.specs.Orders.{credential_cmp}
use Rattle.gov_actions.specs.declared.action.Proposal.{Proposal}
use Rattle.gov_actions.specs.declared.action.Vote.{Vote}
use Rattle.gov_actions.specs.declared.state.Committee.{Committee}
use Rattle.gov_actions.specs.declared.state.HotState.{HotState}
use Rattle.gov_actions.specs.Kinds.{previous_of}
use Rattle.gov_model.specs.Sides.{members_of}
use Rattle.gov_model.specs.Snapshot.{Snapshot}
use Rattle.tx_records.specs.declared.limits.TheConstants.{LEAST_MAJOR}
use Rattle.tx_records.specs.Limits.{is_slot, is_u64}
use Rattle.formed_laws.proofs.Each.{Each, each-with_values}
use Rattle.text_forms.specs.Actions.{is_action, is_member, is_proposal, is_version, is_vote}
use Rattle.text_forms.specs.Books as books
use Rattle.text_forms.specs.Ids.{is_account_id, is_action_id, is_credential, is_hash, is_map, is_unit}
use Rattle.text_forms.specs.States.{are_last_ids, are_params, is_committee, is_state}
use Rattle.book_kinds.specs.Books.{is_vote_line}
use Rattle.book_kinds.specs.Frozen.{is_pool_account_line}
use Rattle.state_kinds.specs.Proposals.{is_proposal_line, row_of}
use Rattle.state_kinds.specs.States.{is_constitution_line, is_member_line}
use Rattle.checkpoint_lists.specs.Shown.{member_row, vote_rows}
use Rattle.certificate_lists.specs.Rows.{governed_shown, has_governed_form, has_voter_form, is_certificate_line, is_whole_row, rows_shown, voters_shown, whole_row}
use Rattle.resume_checks.proofs.Ordered.{set_from_rising}
use Rattle.resume_checks.specs.Forms.{have_frozen_form}
use Rattle.shown_lists.specs.Present.{present_entries}
use Rattle.shown_lists.specs.Shows.{MemberRow, hot_of_all, hot_of_members, pools_shown}
use Rattle.shown_lists.proofs.Accounts.{accounts_back}
use Rattle.shown_lists.proofs.ColdKeys.{hot_back}
use Rattle.snapshot_reader.specs.Told.{IsListed}
use Rattle.snapshot_reader.specs.Fitting.{IsTold, has_ordered_votes, has_further_form}
use Rattle.snapshot_reader.proofs.Entries.{both_pass, each_parts, each_whole, pass_shown}

-- ---- what cold keys authorized

members_each : (rows : List MemberRow) → list_all is_member_line rows ≡ true → Each is_credential books.is_hot_state (hot_of_members rows)
members_each [] h = tt
members_each ((m, None) ∷ rows) h = members_each rows (and_parts (is_member_line (m, None)) (list_all is_member_line rows) h).1
members_each ((m, Some s) ∷ rows) h =
    let both = and_parts (is_member_line (m, Some s)) (list_all is_member_line rows) h in
    let first = and_parts (is_member m) (books.is_hot_state s) both.0 in
    (((and_parts (is_credential m.0) (is_slot m.1) first.0).0, first.1), members_each rows both.1)

hot_form : (members : List MemberRow) (others hot : List (Credential × HotState)) → hot_of_all members others ≡ hot → list_all is_member_line members ≡ true → list_all books.is_hot others ≡ true → list_all books.is_hot hot ≡ true
hot_form members others hot is h k =
    let outside = each-with_values is_credential books.is_hot_state credential_cmp others [] (each_parts is_credential books.is_hot_state others k) tt in
    let all = each-with_values is_credential books.is_hot_state credential_cmp (hot_of_members members) _ (members_each members h) outside in
    subst (λ (x : List (Credential × HotState)). list_all books.is_hot x ≡ true) is (each_whole is_credential books.is_hot_state (hot_of_all members others) all)

-- ---- the reward accounts of pools

present_form : (rows : List (PoolId × Option Account)) → list_all is_pool_account_line rows ≡ true → list_all books.is_pool_account (present_entries rows) ≡ true
present_form [] h = refl
present_form ((p, None) ∷ rows) h = present_form rows (and_parts (is_pool_account_line (p, None)) (list_all is_pool_account_line rows) h).1
present_form ((p, Some a) ∷ rows) h =
    let both = and_parts (is_pool_account_line (p, Some a)) (list_all is_pool_account_line rows) h in
    and_from (books.is_pool_account (p, a)) (list_all books.is_pool_account (present_entries rows)) both.0 (present_form rows both.1)

accounts_form : (f : Snapshot) → IsListed f → list_all is_pool_account_line (voters_shown f).pools ≡ true → list_all books.is_pool_account f.pool_accounts ≡ true
accounts_form f listed h =
    subst (λ (x : List (PoolId × Account)). list_all books.is_pool_account x ≡ true) (accounts_back f.mark f.pool_accounts listed.mark listed.pool_accounts) (present_form (pools_shown f.mark f.pool_accounts) h)

-- ---- the committee

committee_form : (c : Option Committee) (hot : List (Credential × HotState)) → is_map credential_cmp (members_of c) ≡ true → list_all is_member_line (map (member_row hot) (members_of c)) ≡ true
    → none_or is_unit (option_map (λ (d : Committee). d.threshold) c) ≡ true → none_or is_committee c ≡ true
committee_form None hot ordered h k = refl
committee_form (Some c) hot ordered h k =
    let members = pass_shown is_member is_member_line (member_row hot) (λ m j. (and_parts (is_member m) _ j).0) c.members h in
    and_from _ (is_unit c.threshold) (and_from (is_map credential_cmp c.members) (list_all is_member c.members) ordered members) k

-- ---- proposals

proposal_form : (p : Proposal) → is_whole_row (whole_row p) ≡ true → has_ordered_votes p ≡ true → is_proposal p ≡ true
proposal_form p h order =
    let action = and_parts _ (is_action_id p.id && is_action p.action) h in
    let rows = and_parts (is_proposal_line (row_of p)) (list_all is_vote_line (vote_rows p)) action.0 in
    let previous = and_parts _ (none_or is_action_id (previous_of p.action)) rows.0 in
    let expires_after = and_parts _ (is_u64 p.expires_after) previous.0 in
    let account = and_parts _ (is_account_id p.account) expires_after.0 in
    let deposit = and_parts (is_action_id p.id) (is_u64 p.deposit) account.0 in
    let votes = pass_shown is_vote is_vote_line (λ (v : Voter × Vote). (p.id, v)) (λ v j. (and_parts (is_action_id p.id) (is_vote v) j).1) p.votes rows.1 in
    let one = and_from _ (is_u64 p.deposit) action.1 deposit.1 in
    let two = and_from _ (is_account_id p.account) one account.1 in
    let three = and_from _ (is_u64 p.expires_after) two expires_after.1 in
    and_from _ (has_ordered_votes p) (and_from _ (list_all is_vote p.votes) three votes) order

proposals_form : (ps : List Proposal) → list_all is_whole_row (map whole_row ps) ≡ true → list_all has_ordered_votes ps ≡ true → list_all is_proposal ps ≡ true
proposals_form ps h k =
    both_pass (λ (p : Proposal). is_whole_row (whole_row p)) has_ordered_votes is_proposal proposal_form ps
    (pass_shown (λ (p : Proposal). is_whole_row (whole_row p)) is_whole_row whole_row (λ p j. j) ps h) k

-- ---- all of it

record Governed (f : Snapshot) : Type 0 where
  head : is_certificate_line (governed_shown f).head ≡ true
  constitution : is_constitution_line (governed_shown f).constitution ≡ true
  threshold : none_or is_unit (governed_shown f).threshold ≡ true
  members : list_all is_member_line (governed_shown f).members ≡ true
  hot : list_all books.is_hot (governed_shown f).hot ≡ true
  last : are_last_ids f.start.last ≡ true

governed_of : (f : Snapshot) → has_governed_form (governed_shown f) ≡ true → Governed f
governed_of f h =
    let g = governed_shown f in
    let last = and_parts _ (are_last_ids g.last) h in
    let hot = and_parts _ (list_all books.is_hot g.hot) last.0 in
    let members = and_parts _ (list_all is_member_line g.members) hot.0 in
    let threshold = and_parts _ (none_or is_unit g.threshold) members.0 in
    let constitution = and_parts (is_certificate_line g.head) (is_constitution_line g.constitution) threshold.0 in
    record {
      head = constitution.0;
      constitution = constitution.1;
      threshold = threshold.1;
      members = members.1;
      hot = hot.1;
      last = last.1;
    }

state_form : (f : Snapshot) → IsListed f → Governed f → are_params f.start.params ≡ true → nat_le LEAST_MAJOR f.start.version.0 ≡ true → is_state f.start ≡ true
state_form f listed g params later =
    let s = f.start in
    let head = and_parts (is_u64 f.epoch && is_version s.version) (is_u64 s.treasury) g.head in
    let version = and_from (is_version s.version) (nat_le LEAST_MAJOR s.version.0) (and_parts (is_u64 f.epoch) (is_version s.version) head.0).1 later in
    let constitution = and_parts (is_hash 32 s.document) (none_or (is_hash 28) s.script) g.constitution in
    let one = and_from (are_params s.params) _ params version in
    let two = and_from _ (none_or is_committee s.committee) one (committee_form s.committee f.hot listed.governing.members g.members g.threshold) in
    let three = and_from _ (is_hash 32 s.document) two constitution.0 in
    let four = and_from _ (none_or (is_hash 28) s.script) three constitution.1 in
    and_from _ (is_u64 s.treasury) (and_from _ (are_last_ids s.last) four g.last) head.1

-- each item has the form
pub items_form : (f : Snapshot) → IsTold f → has_further_form f ≡ true → have_frozen_form f ≡ true
items_form f told later =
    let s = rows_shown f in
    let proposals = and_parts _ (list_all is_whole_row s.proposals) told.form in
    let voters = and_parts _ (has_voter_form s.voters) proposals.0 in
    let params = and_parts (has_governed_form s.governed) (are_params s.params) voters.0 in
    let entries = and_parts _ (list_all books.is_entry f.entries) voters.1 in
    let mark = and_parts _ (list_all books.is_stake f.mark) entries.0 in
    let pools = and_parts (list_all books.is_frozen_drep f.dreps) (list_all is_pool_account_line s.voters.pools) mark.0 in
    let last = and_parts (nat_le LEAST_MAJOR f.start.version.0) (list_all has_ordered_votes f.proposals) later in
    let g = governed_of f params.0 in
    let listed = told.listed in
    let committee = f.start.committee in
    let hot_same = hot_back (members_of committee) f.hot (set_from_rising credential_cmp (keys_of (members_of committee)) listed.governing.members) (set_from_rising credential_cmp (keys_of f.hot) listed.governing.hot) in
    let one = and_from (list_all books.is_entry f.entries) (list_all books.is_frozen_drep f.dreps) entries.1 pools.0 in
    let two = and_from _ (list_all books.is_stake f.mark) one mark.1 in
    let three = and_from _ (list_all books.is_pool_account f.pool_accounts) two (accounts_form f listed pools.1) in
    let four = and_from _ (list_all books.is_hot f.hot) three (hot_form (governed_shown f).members (governed_shown f).hot f.hot hot_same g.members g.hot) in
    and_from _ (is_state f.start) (and_from _ (list_all is_proposal f.proposals) four (proposals_form f.proposals proposals.1 last.1)) (state_form f listed g params.1 last.0)

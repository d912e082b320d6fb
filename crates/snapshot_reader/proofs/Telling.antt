-- The lines of a snapshot of the form of the formats have their form, and its lists are in order.
use Rattle.std.proofs.Common.{◌≡◌, ℕ, ◌^◌, true, ◌&&◌, List, Option, Some, None, map, nat_le, option_map, refl, arith}
use Rattle.std.specs.List.{list_all}
use Rattle.std.proofs.lemmas.Bool.{and_from, and_parts, lt-ltb, ltb-true}
use Rattle.gov_ids.specs.of_maps.Maps.{has_key, value_at}
use Rattle.gov_ids.specs.of_maps.Words.{none_or}
use Rattle.gov_ids.specs.declared.Credential.{Credential}
use Rattle.gov_ids.specs.declared.Voter.{Voter}
use Rattle.gov_ids.specs.Orders.{credential_cmp, pool_cmp, voter_cmp}
use Rattle.gov_actions.specs.declared.action.Action.{Action}
use Rattle.gov_actions.specs.declared.action.Action.TheVariants.{NoConfidence, UpdateCommittee, NewConstitution, HardForkInitiation, ParameterChange, TreasuryWithdrawals, Info}
use Rattle.gov_actions.specs.declared.action.Proposal.{Proposal}
use Rattle.gov_actions.specs.declared.action.Vote.{Vote}
use Rattle.gov_actions.specs.declared.state.Committee.{Committee}
use Rattle.gov_actions.specs.declared.state.EnactState.{EnactState}
use Rattle.gov_actions.specs.declared.state.HotState.{HotState}
use Rattle.gov_actions.specs.Kinds.{previous_of}
use Rattle.gov_model.specs.Sides.{members_of}
use Rattle.gov_model.specs.Snapshot.{Snapshot}
use Rattle.tx_records.specs.declared.limits.TheConstants.{LEAST_MAJOR, SLOT_LIMIT}
use Rattle.tx_records.specs.Limits.{is_slot, is_u64}
use Rattle.formed_laws.proofs.Each.{each-at}
use Rattle.text_forms.specs.Actions.{are_credentials, are_members, are_proposals, is_action, is_member, is_previous, is_proposal, is_update, is_version, is_vote}
use Rattle.text_forms.specs.Books as books
use Rattle.text_forms.specs.Ids.{is_account_id, is_action_id, is_credential, is_hash, is_map, is_pool_id, is_unit}
use Rattle.text_forms.specs.Snapshots.{are_pool_accounts, are_stakes, is_snapshot}
use Rattle.text_forms.specs.States.{are_last_ids, are_params, is_committee, is_conway_version, is_state}
use Rattle.book_kinds.specs.Books.{is_vote_line}
use Rattle.book_kinds.specs.Frozen.{is_pool_account_line}
use Rattle.state_kinds.specs.Proposals.{is_proposal_line, row_of}
use Rattle.state_kinds.specs.States.{is_constitution_line, is_member_line}
use Rattle.checkpoint_lists.specs.Shown.{member_row, pool_account_row, vote_rows}
use Rattle.certificate_lists.specs.Rows.{governed_shown, has_governed_form, has_voter_form, is_certificate_line, is_whole_row, rows_shown, voters_shown, whole_row}
use Rattle.resume_checks.specs.Forms.{are_accounts_of}
use Rattle.snapshot_reader.specs.Told.{IsListed}
use Rattle.snapshot_reader.specs.Fitting.{IsTold, has_ordered_votes, has_further_form}
use Rattle.snapshot_reader.proofs.Entries.{both_pass, each_parts, filtered_pass, shown_pass}

-- ---- what is tested of a snapshot, and of its state

pub record Formed (f : Snapshot) : Type 0 where
  pub entries : (is_map credential_cmp f.entries && list_all books.is_entry f.entries) ≡ true
  pub dreps : list_all books.is_frozen_drep f.dreps ≡ true
  pub mark : are_stakes f.mark ≡ true
  pub pool_accounts : are_pool_accounts f.mark f.pool_accounts ≡ true
  pub hot_map : is_map credential_cmp f.hot ≡ true
  pub hot : list_all books.is_hot f.hot ≡ true
  pub proposals : list_all is_proposal f.proposals ≡ true
  pub start : is_state f.start ≡ true

pub formed_of : (f : Snapshot) → is_snapshot f ≡ true → Formed f
formed_of f h =
    let start = and_parts _ (is_state f.start) h in
    let proposals = and_parts _ (are_proposals f.proposals) start.0 in
    let hot = and_parts _ (list_all books.is_hot f.hot) proposals.0 in
    let hot_map = and_parts _ (is_map credential_cmp f.hot) hot.0 in
    let accounts = and_parts _ (are_pool_accounts f.mark f.pool_accounts) hot_map.0 in
    let mark = and_parts _ (are_stakes f.mark) accounts.0 in
    let dreps = and_parts _ (list_all books.is_frozen_drep f.dreps) mark.0 in
    let dreps_map = and_parts (is_map credential_cmp f.entries && list_all books.is_entry f.entries) (is_map credential_cmp f.dreps) dreps.0 in
    record {
      entries = dreps_map.0;
      dreps = dreps.1;
      mark = mark.1;
      pool_accounts = accounts.1;
      hot_map = hot_map.1;
      hot = hot.1;
      proposals = (and_parts (list_all is_proposal f.proposals) _ proposals.1).0;
      start = start.1;
    }

pub record StateFormed (s : EnactState) : Type 0 where
  pub params : are_params s.params ≡ true
  pub version : is_conway_version s.version ≡ true
  pub committee : none_or is_committee s.committee ≡ true
  pub document : is_hash 32 s.document ≡ true
  pub script : none_or (is_hash 28) s.script ≡ true
  pub last : are_last_ids s.last ≡ true
  pub treasury : is_u64 s.treasury ≡ true

pub state_of : (s : EnactState) → is_state s ≡ true → StateFormed s
state_of s h =
    let treasury = and_parts _ (is_u64 s.treasury) h in
    let last = and_parts _ (are_last_ids s.last) treasury.0 in
    let script = and_parts _ (none_or (is_hash 28) s.script) last.0 in
    let document = and_parts _ (is_hash 32 s.document) script.0 in
    let committee = and_parts _ (none_or is_committee s.committee) document.0 in
    let version = and_parts (are_params s.params) (is_conway_version s.version) committee.0 in
    record {
      params = version.0;
      version = version.1;
      committee = committee.1;
      document = document.1;
      script = script.1;
      last = last.1;
      treasury = treasury.1;
    }

-- ---- the committee

threshold_form : (c : Option Committee) → none_or is_committee c ≡ true → none_or is_unit (option_map (λ (d : Committee). d.threshold) c) ≡ true
threshold_form None h = refl
threshold_form (Some c) h = (and_parts _ (is_unit c.threshold) h).1

members_map : (c : Option Committee) → none_or is_committee c ≡ true → is_map credential_cmp (members_of c) ≡ true
members_map None h = refl
members_map (Some c) h = (and_parts (is_map credential_cmp c.members) (list_all is_member c.members) (and_parts _ (is_unit c.threshold) h).0).0

members_pass : (c : Option Committee) → none_or is_committee c ≡ true → list_all is_member (members_of c) ≡ true
members_pass None h = refl
members_pass (Some c) h = (and_parts (is_map credential_cmp c.members) (list_all is_member c.members) (and_parts _ (is_unit c.threshold) h).0).1

member_lines : (c : Option Committee) (hot : List (Credential × HotState)) → none_or is_committee c ≡ true → list_all books.is_hot hot ≡ true → list_all is_member_line (map (member_row hot) (members_of c)) ≡ true
member_lines c hot h k =
    shown_pass is_member is_member_line (member_row hot)
    (λ m j. and_from (is_member m) (none_or books.is_hot_state (value_at credential_cmp hot m.0)) j (each-at is_credential books.is_hot_state credential_cmp m.0 hot (each_parts is_credential books.is_hot_state hot k)))
    (members_of c) (members_pass c h)

-- ---- pools

pool_lines : (f : Snapshot) → list_all books.is_stake f.mark ≡ true → list_all books.is_pool_account f.pool_accounts ≡ true → list_all is_pool_account_line (map (pool_account_row f) f.mark) ≡ true
pool_lines f h k =
    shown_pass books.is_stake is_pool_account_line (pool_account_row f)
    (λ m j. and_from (is_pool_id m.0) (none_or is_account_id (value_at pool_cmp f.pool_accounts m.0)) (and_parts (is_pool_id m.0) (is_u64 m.1) j).0 (each-at is_pool_id is_account_id pool_cmp m.0 f.pool_accounts (each_parts is_pool_id is_account_id f.pool_accounts k)))
    f.mark h

accounts_kept : (f : Snapshot) → are_pool_accounts f.mark f.pool_accounts ≡ true → are_accounts_of f.mark f.pool_accounts ≡ true
accounts_kept f h =
    let of_mark = and_parts (is_map pool_cmp f.pool_accounts && list_all books.is_pool_account f.pool_accounts) (list_all (λ p. has_key pool_cmp f.mark p.0) f.pool_accounts) h in
    and_from (is_map pool_cmp f.pool_accounts) (list_all (λ p. has_key pool_cmp f.mark p.0) f.pool_accounts) (and_parts (is_map pool_cmp f.pool_accounts) (list_all books.is_pool_account f.pool_accounts) of_mark.0).0 of_mark.1

-- ---- proposals

previous_form : (a : Action) → is_action a ≡ true → none_or is_action_id (previous_of a) ≡ true
previous_form (NoConfidence previous) h = h
previous_form (UpdateCommittee previous remove add threshold) h =
    let members = and_parts _ (is_unit threshold) h in
    let removed = and_parts _ (are_members add) members.0 in
    (and_parts (is_previous previous) (are_credentials remove) removed.0).0
previous_form (NewConstitution previous document script) h = (and_parts (is_previous previous) (is_hash 32 document) (and_parts _ (none_or (is_hash 28) script) h).0).0
previous_form (HardForkInitiation previous version) h = (and_parts (is_previous previous) (is_version version) h).0
previous_form (ParameterChange previous update policy) h = (and_parts (is_previous previous) (is_update update) (and_parts _ (none_or (is_hash 28) policy) h).0).0
previous_form (TreasuryWithdrawals targets policy) h = refl
previous_form Info h = refl

vote_lines : (p : Proposal) → is_action_id p.id ≡ true → list_all is_vote p.votes ≡ true → list_all is_vote_line (vote_rows p) ≡ true
vote_lines p h k = shown_pass is_vote is_vote_line (λ (v : Voter × Vote). (p.id, v)) (λ v j. and_from (is_action_id p.id) (is_vote v) h j) p.votes k

pub record ProposalFormed (p : Proposal) : Type 0 where
  pub id : is_action_id p.id ≡ true
  pub action : is_action p.action ≡ true
  pub deposit : is_u64 p.deposit ≡ true
  pub account : is_account_id p.account ≡ true
  pub expires_after : is_u64 p.expires_after ≡ true
  pub votes : list_all is_vote p.votes ≡ true
  pub order : has_ordered_votes p ≡ true

proposal_of : (p : Proposal) → is_proposal p ≡ true → ProposalFormed p
proposal_of p h =
    let order = and_parts _ (is_map voter_cmp p.votes) h in
    let votes = and_parts _ (list_all is_vote p.votes) order.0 in
    let expires_after = and_parts _ (is_u64 p.expires_after) votes.0 in
    let account = and_parts _ (is_account_id p.account) expires_after.0 in
    let deposit = and_parts _ (is_u64 p.deposit) account.0 in
    let action = and_parts (is_action_id p.id) (is_action p.action) deposit.0 in
    record {
      id = action.0;
      action = action.1;
      deposit = deposit.1;
      account = account.1;
      expires_after = expires_after.1;
      votes = votes.1;
      order = order.1;
    }

proposal_line_form : (p : Proposal) → ProposalFormed p → is_proposal_line (row_of p) ≡ true
proposal_line_form p h =
    let deposit = and_from (is_action_id p.id) (is_u64 p.deposit) h.id h.deposit in
    let account = and_from _ (is_account_id p.account) deposit h.account in
    let expires_after = and_from _ (is_u64 p.expires_after) account h.expires_after in
    and_from _ (none_or is_action_id (previous_of p.action)) expires_after (previous_form p.action h.action)

whole_form : (p : Proposal) → ProposalFormed p → is_whole_row (whole_row p) ≡ true
whole_form p h =
    let row = and_from (is_proposal_line (row_of p)) (list_all is_vote_line (vote_rows p)) (proposal_line_form p h) (vote_lines p h.id h.votes) in
    and_from _ (is_action_id p.id && is_action p.action) row (and_from (is_action_id p.id) (is_action p.action) h.id h.action)

whole_lines : (ps : List Proposal) → list_all is_proposal ps ≡ true → list_all is_whole_row (map whole_row ps) ≡ true
whole_lines ps h = shown_pass is_proposal is_whole_row whole_row (λ p k. whole_form p (proposal_of p k)) ps h

votes_ordered : (ps : List Proposal) → list_all is_proposal ps ≡ true → list_all has_ordered_votes ps ≡ true
votes_ordered ps h = both_pass is_proposal is_proposal has_ordered_votes (λ p k l. (proposal_of p k).order) ps h h

-- ---- all of it

governed_form : (f : Snapshot) → is_u64 f.epoch ≡ true → Formed f → StateFormed f.start → has_governed_form (governed_shown f) ≡ true
governed_form f e h s =
    let start = f.start in
    let version = and_from (is_u64 f.epoch) (is_version start.version) e (and_parts (is_version start.version) (nat_le LEAST_MAJOR start.version.0) s.version).0 in
    let head = and_from _ (is_u64 start.treasury) version s.treasury in
    let constitution = and_from (is_certificate_line (governed_shown f).head) (is_constitution_line (governed_shown f).constitution) head (and_from (is_hash 32 start.document) (none_or (is_hash 28) start.script) s.document s.script) in
    let threshold = and_from _ (none_or is_unit (governed_shown f).threshold) constitution (threshold_form start.committee s.committee) in
    let members = and_from _ (list_all is_member_line (governed_shown f).members) threshold (member_lines start.committee f.hot s.committee h.hot) in
    let hot = and_from _ (list_all books.is_hot (governed_shown f).hot) members (filtered_pass books.is_hot _ f.hot h.hot) in
    and_from _ (are_last_ids start.last) hot s.last

voter_form : (f : Snapshot) → Formed f → has_voter_form (voters_shown f) ≡ true
voter_form f h =
    let mark = (and_parts (is_map pool_cmp f.mark) (list_all books.is_stake f.mark) h.mark).1 in
    let accounts = and_parts (is_map pool_cmp f.pool_accounts && list_all books.is_pool_account f.pool_accounts) (list_all (λ p. has_key pool_cmp f.mark p.0) f.pool_accounts) h.pool_accounts in
    let pools = and_from (list_all books.is_frozen_drep f.dreps) (list_all is_pool_account_line (voters_shown f).pools) h.dreps (pool_lines f mark (and_parts (is_map pool_cmp f.pool_accounts) (list_all books.is_pool_account f.pool_accounts) accounts.0).1) in
    and_from _ (list_all books.is_entry f.entries) (and_from _ (list_all books.is_stake f.mark) pools mark) (and_parts (is_map credential_cmp f.entries) (list_all books.is_entry f.entries) h.entries).1

listed_of : (f : Snapshot) → Formed f → StateFormed f.start → IsListed f
listed_of f h s = record {
  governing = record { members = members_map f.start.committee s.committee; hot = h.hot_map };
  mark = (and_parts (is_map pool_cmp f.mark) (list_all books.is_stake f.mark) h.mark).0;
  pool_accounts = accounts_kept f h.pool_accounts;
}

early : (n : ℕ) → is_slot n ≡ true → is_u64 n ≡ true
early n h = lt-ltb n (2 ^ 64) (omega (arith, ltb-true n SLOT_LIMIT h))

pub told_of : (f : Snapshot) → is_snapshot f ≡ true → is_slot f.epoch ≡ true → IsTold f
told_of f h e =
    let formed = formed_of f h in
    let state = state_of f.start formed.start in
    let params = and_from (has_governed_form (governed_shown f)) (are_params f.start.params) (governed_form f (early f.epoch e) formed state) state.params in
    let voters = and_from _ (has_voter_form (voters_shown f)) params (voter_form f formed) in
    record {
      form = and_from _ (list_all is_whole_row (rows_shown f).proposals) voters (whole_lines f.proposals formed.proposals);
      listed = listed_of f formed state;
    }

-- what no line shows
pub further_of : (f : Snapshot) → is_snapshot f ≡ true → has_further_form f ≡ true
further_of f h =
    let formed = formed_of f h in
    let version = (state_of f.start formed.start).version in
    and_from (nat_le LEAST_MAJOR f.start.version.0) (list_all has_ordered_votes f.proposals) (and_parts (is_version f.start.version) (nat_le LEAST_MAJOR f.start.version.0) version).1 (votes_ordered f.proposals formed.proposals)

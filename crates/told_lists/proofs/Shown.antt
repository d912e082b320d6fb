-- Plain lists whose lines have their forms have the form of the formats.
use Rattle.std.proofs.Common.{◌≡◌, ℕ, true, ◌==◌, nat_le, map, Option, Some, None, option_map, refl, ap, ◌∙◌}
use Rattle.std.specs.List.{list_all}
use Rattle.std.proofs.lemmas.Bool.{and_from, and_parts, eqb-true}
use Rattle.maps.specs.Words.{none_or}
use Rattle.gov_actions.specs.declared.state.EnactState.{EnactState}
use Rattle.tx_records.specs.declared.limits.TheConstants.{LEAST_MAJOR}
use Rattle.tx_records.specs.declared.record.Rewards.{Rewards}
use Rattle.tx_records.specs.Limits.{is_u64}
use Rattle.text_forms.specs.Actions.{is_proposal, is_version}
use Rattle.text_forms.specs.Books as books
use Rattle.text_forms.specs.Ids.{is_action_id, is_hash, is_tx_id, is_unit}
use Rattle.text_forms.specs.Lines.{are_short_lines}
use Rattle.text_forms.specs.Snapshots.{action_words}
use Rattle.text_forms.specs.States.{are_last_ids, are_params, is_committee, is_conway_version, is_state}
use Rattle.resume_checks.specs.Forms.{have_frozen_form, have_items_form}
use Rattle.state_lists.specs.declared.lists.StateLists.{StateLists}
use Rattle.state_lists.specs.Worlds.{frozen_of_lists, ledger_of_lists, world_of_lists}
use Rattle.book_kinds.specs.Books.{is_vote_line}
use Rattle.book_kinds.specs.Frozen.{is_pool_account_line}
use Rattle.book_kinds.specs.Outputs.{is_output_line}
use Rattle.book_kinds.specs.Pools.{is_next_line, is_pool_line}
use Rattle.state_kinds.specs.Heads.{is_head_line, is_now_line}
use Rattle.state_kinds.specs.Proposals.{is_proposal_line}
use Rattle.state_kinds.specs.States.{is_constitution_line, is_member_line, is_pending_line}
use Rattle.action_kinds.specs.Lines.{is_action_line}
use Rattle.checkpoint_lists.specs.declared.gathered.Amounts.{Amounts}
use Rattle.checkpoint_lists.specs.declared.gathered.Books.{Books}
use Rattle.checkpoint_lists.specs.declared.gathered.FrozenRows.{FrozenRows}
use Rattle.checkpoint_lists.specs.declared.gathered.Governance.{Governance}
use Rattle.checkpoint_lists.specs.declared.gathered.Stakes.{Stakes}
use Rattle.checkpoint_lists.specs.Pots.{are_pots}
use Rattle.checkpoint_lists.specs.Rows.{are_rows, has_frozen_form, has_governance_form, have_amount_form, have_book_form, have_stake_form}
use Rattle.checkpoint_lists.specs.Shown.{amounts_shown, books_shown, frozen_shown, governance_shown, pending_row, rewards_of}
use Rattle.checkpoint_reader.specs.declared.read.Gathered.{Gathered}
use Rattle.checkpoint_reader.specs.Gathered.{has_gathered_form}
use Rattle.resumable_lists.specs.Shown.{IsShown}
use Rattle.told_lists.specs.Told.{IsListed, told_by}
use Rattle.told_lists.proofs.Formed.{accounts_formed, committee_formed, frozen_proposals_formed, hot_formed, outputs_formed, pool_accounts_formed, pools_formed, proposals_formed}

-- ---- the forms of the groups of lines, one by one

record OfGovernance (g : Governance) : Type 0 where
  pub head : is_head_line g.head ≡ true
  pub now : is_now_line g.now ≡ true
  pub constitution : is_constitution_line g.constitution ≡ true
  pub threshold : none_or is_unit g.threshold ≡ true
  pub members : list_all is_member_line g.members ≡ true
  pub hot : list_all books.is_hot g.hot ≡ true
  pub last : are_last_ids g.last ≡ true

of_governance : (g : Governance) → has_governance_form g ≡ true → OfGovernance g
of_governance g h =
    let a = and_parts _ (are_last_ids g.last) h in
    let b = and_parts _ (list_all books.is_hot g.hot) a.0 in
    let c = and_parts _ (list_all is_member_line g.members) b.0 in
    let d = and_parts _ (none_or is_unit g.threshold) c.0 in
    let e = and_parts _ (is_constitution_line g.constitution) d.0 in
    let f = and_parts (is_head_line g.head) (is_now_line g.now) e.0 in
    record { head = f.0; now = f.1; constitution = e.1; threshold = d.1; members = c.1; hot = b.1; last = a.1 }

record OfBooks (b : Books) : Type 0 where
  pub dreps : list_all books.is_drep b.dreps ≡ true
  pub pools : list_all (are_rows is_pool_line is_next_line) b.pools ≡ true
  pub entries : list_all books.is_entry b.entries ≡ true
  pub outputs : list_all (are_rows is_output_line books.is_held_asset) b.outputs ≡ true
  pub proposals : list_all (are_rows is_proposal_line is_vote_line) b.proposals ≡ true

of_books : (b : Books) → have_book_form b ≡ true → OfBooks b
of_books x h =
    let a = and_parts _ (list_all (are_rows is_proposal_line is_vote_line) x.proposals) h in
    let b = and_parts _ (list_all (are_rows is_output_line books.is_held_asset) x.outputs) a.0 in
    let c = and_parts _ (list_all books.is_entry x.entries) b.0 in
    let d = and_parts (list_all books.is_drep x.dreps) (list_all (are_rows is_pool_line is_next_line) x.pools) c.0 in
    record { dreps = d.0; pools = d.1; entries = c.1; outputs = b.1; proposals = a.1 }

record OfStakes (s : Stakes) : Type 0 where
  pub mark : list_all books.is_stake s.mark ≡ true
  pub set : list_all books.is_stake s.set ≡ true
  pub go : list_all books.is_stake s.go ≡ true
  pub noted_fees : is_u64 s.noted_fees ≡ true

of_stakes : (s : Stakes) → have_stake_form s ≡ true → OfStakes s
of_stakes s h =
    let a = and_parts _ (is_u64 s.noted_fees) h in
    let b = and_parts _ (list_all books.is_stake s.go) a.0 in
    let c = and_parts (list_all books.is_stake s.mark) (list_all books.is_stake s.set) b.0 in
    record { mark = c.0; set = c.1; go = b.1; noted_fees = a.1 }

record OfAmounts (x : Amounts) : Type 0 where
  pub pending : none_or is_pending_line x.pending ≡ true
  pub rewards : list_all books.is_amount x.rewards ≡ true
  pub pots : are_pots x.pots ≡ true
  pub used : list_all is_tx_id x.used ≡ true

of_amounts : (x : Amounts) → have_amount_form x ≡ true → OfAmounts x
of_amounts x h =
    let a = and_parts _ (list_all is_tx_id x.used) h in
    let b = and_parts _ (are_pots x.pots) a.0 in
    let c = and_parts (none_or is_pending_line x.pending) (list_all books.is_amount x.rewards) b.0 in
    record { pending = c.0; rewards = c.1; pots = b.1; used = a.1 }

record OfFrozen (f : FrozenRows) : Type 0 where
  pub treasury : is_u64 f.treasury ≡ true
  pub entries : list_all books.is_entry f.entries ≡ true
  pub dreps : list_all books.is_frozen_drep f.dreps ≡ true
  pub hot : list_all books.is_hot f.hot ≡ true
  pub pools : list_all is_pool_account_line f.pools ≡ true
  pub proposals : list_all (are_rows is_action_id is_vote_line) f.proposals ≡ true

of_frozen : (f : FrozenRows) → has_frozen_form f ≡ true → OfFrozen f
of_frozen f h =
    let a = and_parts _ (list_all (are_rows is_action_id is_vote_line) f.proposals) h in
    let b = and_parts _ (list_all is_pool_account_line f.pools) a.0 in
    let c = and_parts _ (list_all books.is_hot f.hot) b.0 in
    let d = and_parts _ (list_all books.is_frozen_drep f.dreps) c.0 in
    let e = and_parts (is_u64 f.treasury) (list_all books.is_entry f.entries) d.0 in
    record { treasury = e.0; entries = e.1; dreps = d.1; hot = c.1; pools = b.1; proposals = a.1 }

record OfGathered (g : Gathered) : Type 0 where
  pub governance : OfGovernance g.governance
  pub params : are_params g.params ≡ true
  pub books : OfBooks g.books
  pub stakes : OfStakes g.stakes
  pub amounts : OfAmounts g.amounts
  pub actions : list_all is_action_line g.actions ≡ true
  pub frozen : OfFrozen g.frozen

of_gathered : (g : Gathered) → has_gathered_form g ≡ true → OfGathered g
of_gathered g h =
    let a = and_parts _ (has_frozen_form g.frozen) h in
    let b = and_parts _ (list_all is_action_line g.actions) a.0 in
    let c = and_parts _ (have_amount_form g.amounts) b.0 in
    let d = and_parts _ (have_stake_form g.stakes) c.0 in
    let e = and_parts _ (have_book_form g.books) d.0 in
    let f = and_parts (has_governance_form g.governance) (are_params g.params) e.0 in
    record {
      governance = of_governance g.governance f.0;
      params = f.1;
      books = of_books g.books e.1;
      stakes = of_stakes g.stakes d.1;
      amounts = of_amounts g.amounts c.1;
      actions = b.1;
      frozen = of_frozen g.frozen a.1;
    }

-- ---- the state, and what is pending

state_with : (s : EnactState) (n : ℕ) → is_state s ≡ true → is_u64 n ≡ true → is_state (record s { treasury = n }) ≡ true
state_with s n h is = let a = and_parts _ (is_u64 s.treasury) h in and_from _ _ a.0 is

pending_formed : (epoch : ℕ) (p : Option Rewards) → is_u64 epoch ≡ true → none_or (λ u. u.epoch == epoch) p ≡ true → none_or is_pending_line (option_map pending_row p) ≡ true → list_all books.is_amount (rewards_of p) ≡ true → none_or books.are_rewards p ≡ true
pending_formed epoch None is of line rewards = refl
pending_formed epoch (Some u) is of line rewards =
    let a = and_parts _ (is_u64 u.to_treasury) line in
    let b = and_parts (is_u64 u.from_reserves) (is_u64 u.from_fees) a.0 in
    and_from _ _ (and_from _ _ (and_from _ _ (and_from _ _ (ap is_u64 (eqb-true u.epoch epoch of) ∙ is) b.0) b.1) a.1) rewards

-- ---- all of it

module _ (s : StateLists) (line : ℕ) (listed : IsListed s) (formed : has_gathered_form (told_by (s, line)) ≡ true) where
  rows : OfGathered (told_by (s, line))
  rows = of_gathered (told_by (s, line)) formed

  governance : OfGovernance (governance_shown (world_of_lists s) line)
  governance = rows.governance

  of_books_shown : OfBooks (books_shown (world_of_lists s))
  of_books_shown = rows.books

  of_amounts_shown : OfAmounts (amounts_shown (world_of_lists s))
  of_amounts_shown = rows.amounts

  of_frozen_shown : OfFrozen (frozen_shown (frozen_of_lists s))
  of_frozen_shown = rows.frozen

  record Numbers : Type 0 where
    pub epoch : is_u64 s.clock.epoch ≡ true
    pub version : is_version s.state.version ≡ true
    pub counted : is_u64 s.counted ≡ true
    pub treasury : is_u64 s.state.treasury ≡ true

  numbers : Numbers
  numbers =
      let a = and_parts _ (is_u64 s.clock.dormant) governance.now in
      let b = and_parts _ (is_version s.state.version) a.0 in
      let c = and_parts (is_u64 s.clock.slot) (is_u64 s.clock.epoch) b.0 in
      let d = and_parts _ (is_u64 s.counted) governance.head in
      let p = and_parts _ _ of_amounts_shown.pots in
      let q = and_parts _ (is_u64 s.state.treasury) p.0 in
      record { epoch = c.1; version = b.1; counted = d.1; treasury = q.1 }

  state_is : is_state s.state ≡ true
  state_is =
      let c = and_parts (is_hash 32 s.state.document) (none_or (is_hash 28) s.state.script) governance.constitution in
      let committee : none_or is_committee s.state.committee ≡ true = committee_formed s.books.hot s.state.committee listed.governing.members governance.threshold governance.members in
      let version : is_conway_version s.state.version ≡ true = and_from (is_version s.state.version) (nat_le LEAST_MAJOR s.state.version.0) numbers.version listed.version in
      and_from _ _ (and_from _ _ (and_from _ _ (and_from _ _ (and_from _ _ (and_from _ _ rows.params version) committee) c.0) c.1) governance.last) numbers.treasury

  proposals_are : list_all is_proposal s.books.proposals ≡ true
  proposals_are = proposals_formed s.books.proposals of_books_shown.proposals rows.actions listed.votes

  items_are : have_items_form (ledger_of_lists s) ≡ true
  items_are =
      and_from _ _ (
      and_from _ _ (
      and_from _ _ (
      and_from _ _ (
      and_from _ _ (and_from _ _ (outputs_formed s.books.outputs of_books_shown.outputs listed.assets) of_amounts_shown.used) (accounts_formed (ledger_of_lists s) listed.accounts of_books_shown.entries)
      ) (pools_formed s.books.pools of_books_shown.pools)
      ) of_books_shown.dreps
      ) (hot_formed s.books.hot s.state.committee listed.governing.hot governance.members governance.hot)
      ) proposals_are

  frozen_is : have_frozen_form (frozen_of_lists s) ≡ true
  frozen_is =
      and_from _ _ (
      and_from _ _ (
      and_from _ _ (
      and_from _ _ (
      and_from _ _ (and_from _ _ of_frozen_shown.entries of_frozen_shown.dreps) rows.stakes.mark
      ) (pool_accounts_formed s.stakes.mark s.frozen.pool_accounts listed.pool_accounts of_frozen_shown.pools)
      ) of_frozen_shown.hot
      ) (frozen_proposals_formed s.books.proposals s.frozen.proposals proposals_are listed.frozen of_frozen_shown.proposals listed.frozen_votes)
      ) (state_with s.state s.frozen.treasury state_is of_frozen_shown.treasury)

  pub shown_by : are_short_lines (map action_words s.books.proposals) ≡ true → IsShown s
  shown_by short = record {
    state = state_is;
    items = items_are;
    frozen = frozen_is;
    pending = pending_formed s.clock.epoch s.pending numbers.epoch listed.pending of_amounts_shown.pending of_amounts_shown.rewards;
    mark = rows.stakes.mark;
    set = rows.stakes.set;
    go = rows.stakes.go;
    noted_fees = rows.stakes.noted_fees;
    counted = numbers.counted;
    pots = listed.pots;
    proposals = listed.frozen;
    short = short;
  }

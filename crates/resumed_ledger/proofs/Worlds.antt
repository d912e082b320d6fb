-- The World of the parts that are made of lists is that of the lists.
use Rattle.std.proofs.Common.{◌≡◌, ℕ, ◌+◌, ◌<◌, ◌≤◌, ◌^◌, Bool, true, ◌&&◌, List, ap, sym, subst, ◌∙◌, arith}
use Rattle.std.specs.List.{list_all}
use Rattle.std.proofs.lemmas.Bool.{and_parts}
use Rattle.book_records.specs.declared.Entry.{Entry}
use Rattle.book_records.specs.declared.pool.Pool.{Pool}
use Rattle.book_records.specs.Outputs.{lovelace_in}
use Rattle.checkpoint_model.specs.Resumable.{IsResumable}
use Rattle.coin_frac.specs.declared.TheConstants.{SUPPLY_LIMIT}
use Rattle.drep_book.specs.Dreps.{Dreps}
use Rattle.drep_pulser.specs.declared.Pulser.{Pulser}
use Rattle.drep_pulser.specs.Facts.{held_by}
use Rattle.drep_pulser.specs.Pulsers.{IsPulserOf, done_by}
use Rattle.epoch_start.specs.Begun.{accounts_of_pools}
use Rattle.gov_actions.specs.declared.action.Proposal.{Proposal}
use Rattle.gov_actions.specs.declared.state.EnactState.{EnactState}
use Rattle.gov_actions.specs.declared.state.HotState.{HotState}
use Rattle.gov_ids.specs.declared.Account.{Account}
use Rattle.gov_ids.specs.declared.Credential.{Credential}
use Rattle.gov_ids.specs.declared.PoolId.{PoolId}
use Rattle.gov_ids.specs.Orders.{credential_cmp, pool_cmp}
use Rattle.gov_model.specs.Proposals.{deposits_of}
use Rattle.gov_model.specs.Snapshot.{Snapshot}
use Rattle.ledger_books.specs.declared.Books.{Books}
use Rattle.ledger_model.specs.Supply.{total_of}
use Rattle.ledger_state.specs.Parts.{world_of_parts}
use Rattle.ledger_state.specs.Worlds.{IsHeldBy}
use Rattle.maps.proofs.Credits.{sum_values-entries}
use Rattle.maps.specs.Maps.{IsMap, has_key, sum_values}
use Rattle.run_model.specs.SoundWorld.{AreSoundStakes, IsSoundSnapshot, IsSoundWorld}
use Rattle.run_model.specs.SoundWorld.{held_by as held_by_entry}
use Rattle.run_model.specs.World.{World}
use Rattle.snapshots.specs.declared.frozen.Frozen.{Frozen}
use Rattle.snapshots.specs.Frozen.{frozen_copy_of}
use Rattle.stake_book.specs.Stakes.{Stakes, accounts_of}
use Rattle.state_lists.specs.declared.lists.StateLists.{StateLists}
use Rattle.state_lists.specs.Worlds.{frozen_of_lists, world_of_lists}
use Rattle.text_forms.specs.Actions.{are_proposals}
use Rattle.text_forms.specs.Books.{is_hot}
use Rattle.text_forms.specs.Ids.{is_map}
use Rattle.text_forms.specs.Snapshots.{are_pool_accounts, is_snapshot}
use Rattle.text_forms.specs.States.{is_state}
use Rattle.view_map.specs.View.{frozen_of}
use Rattle.resumed_ledger.specs.Parts.{AreSoundBooks}
use Rattle.resumed_ledger.proofs.Accounts.{accounts_are}

module _ (l : StateLists) (s : IsSoundWorld (world_of_lists l)) where
  -- what is frozen is sound by the greatest supply
  pub sound_snapshot : IsSoundSnapshot SUPPLY_LIMIT (frozen_of_lists l)
  sound_snapshot = record {
    entries = s.frozen.entries;
    dreps = s.frozen.dreps;
    pool_accounts = s.frozen.pool_accounts;
    hot = s.frozen.hot;
    proposals = s.frozen.proposals;
    committee = s.frozen.committee;
    held = omega (arith, s.frozen.held, s.ledger.within);
    activity = s.frozen.activity;
  }

  -- and so is mark
  pub sound_mark : AreSoundStakes SUPPLY_LIMIT l.stakes.mark
  sound_mark = record { pools = s.mark.pools; sum = omega (arith, s.mark.sum, s.ledger.within) }

  -- the lists of the books are in order, and have room
  pub sound_books : AreSoundBooks l.books
  sound_books = record {
    outputs = s.ledger.maps.outputs;
    used = s.ledger.maps.used;
    accounts = s.ledger.maps.accounts;
    pools = s.ledger.maps.pools;
    dreps = s.ledger.maps.dreps;
    hot = s.ledger.maps.hot;
    ids = s.ledger.proposals.ids;
    votes = s.ledger.proposals.votes;
    room = omega (arith, s.ledger.balanced, s.ledger.within);
    deposits = omega (arith, s.ledger.balanced, s.ledger.within);
  }

  -- the entries and deposits of what is frozen fit in 64 bits
  pub frozen_room : (entries : List (Credential × Entry)) (copy : Frozen) → entries ≡ l.frozen.entries → copy ≡ frozen_copy_of (frozen_of_lists l) → held_by entries + deposits_of copy.proposals < 2 ^ 64
  frozen_room entries copy es is =
      omega (
        arith,
        ap held_by es,
        sum_values-entries held_by_entry l.frozen.entries,
        ap (λ (c : Frozen). deposits_of c.proposals) is,
        s.frozen.held,
        s.ledger.within,
      )

-- the reward accounts that were frozen are of pools of mark
pub of_mark : (l : StateLists) → IsResumable (world_of_lists l) → list_all (λ a. has_key pool_cmp l.stakes.mark a.0) l.frozen.pool_accounts ≡ true
of_mark l h =
    let f : Snapshot = frozen_of_lists l in
    let snapshot = (and_parts _ (is_snapshot f) h.form).1 in
    let state = (and_parts _ (is_state f.start) snapshot).0 in
    let proposals = (and_parts _ (are_proposals f.proposals) state).0 in
    let hot = (and_parts _ (list_all is_hot f.hot) proposals).0 in
    let hots = (and_parts _ (is_map credential_cmp f.hot) hot).0 in
    let accounts = (and_parts _ (are_pool_accounts f.mark f.pool_accounts) hots).1 in
    (and_parts _ (list_all (λ p. has_key pool_cmp f.mark p.0) f.pool_accounts) accounts).1

-- ---- the parts

module _ (l : StateLists) (supply : ℕ) (stake : Stakes) (pools : List (PoolId × Pool)) (dreps : Dreps) (hot : List (Credential × HotState)) (proposals : List Proposal) (state : EnactState) (copy : Frozen) (p : Pulser) where
  -- the books of these parts
  abbrev pub books_with : Books
  books_with = record {
    network = l.clock.network;
    length = l.clock.epoch_length;
    supply = supply;
    slot = l.clock.slot;
    epoch = l.clock.epoch;
    stake = stake;
    pools = pools;
    dreps = dreps;
    hot = hot;
    proposals = proposals;
    snapshots = l.stakes;
    state = state;
    pending = l.pending;
    reserves = l.pots.reserves;
    fees = l.pots.fees;
    donations = l.pots.donations;
  }

  -- each part is what the lists say
  pub record AreParts : Type 0 where
    pub sum : supply ≡ total_of l.pots
    pub holdings : stake.outputs ≡ record { outputs = l.books.outputs; used = l.books.used }
    pub registered : accounts_of stake ≡ l.books.accounts
    pub frozen : frozen_of credential_cmp stake.accounts ≡ l.frozen.entries
    pub pooled : pools ≡ l.books.pools
    pub represented : dreps ≡ record { dreps = l.books.dreps; dormant = l.clock.dormant }
    pub authorized : hot ≡ l.books.hot
    pub proposed : proposals ≡ l.books.proposals
    pub enacted : state ≡ l.state
    pub copied : copy ≡ frozen_copy_of (frozen_of_lists l)
    pub counted : done_by p ≡ l.counted

  same_world : AreParts → accounts_of_pools (frozen_copy_of (frozen_of_lists l)).pools ≡ l.frozen.pool_accounts → world_of_parts books_with copy p ≡ world_of_lists l
  same_world h accounts =
      let pool_accounts : accounts_of_pools copy.pools ≡ l.frozen.pool_accounts = ap (λ (c : Frozen). accounts_of_pools c.pools) h.copied ∙ accounts in
      λ i. record {
        ledger = record {
          network = l.clock.network;
          epoch_length = l.clock.epoch_length;
          supply = h.sum i;
          slot = l.clock.slot;
          epoch = l.clock.epoch;
          dormant = (h.represented i).dormant;
          reserves = l.pots.reserves;
          fees = l.pots.fees;
          donations = l.pots.donations;
          state = h.enacted i;
          outputs = (h.holdings i).outputs;
          used = (h.holdings i).used;
          accounts = h.registered i;
          pools = h.pooled i;
          dreps = (h.represented i).dreps;
          hot = h.authorized i;
          proposals = h.proposed i;
        };
        pending = l.pending;
        counted = h.counted i;
        mark = l.stakes.mark;
        set = l.stakes.set;
        go = l.stakes.go;
        noted_fees = l.stakes.fees;
        frozen = record {
          epoch = (h.copied i).epoch;
          entries = h.frozen i;
          dreps = (h.copied i).dreps;
          mark = l.stakes.mark;
          pool_accounts = pool_accounts i;
          hot = (h.copied i).hot;
          proposals = (h.copied i).proposals;
          start = (h.copied i).start;
        };
      }

  -- the World of the parts is that of the lists
  pub world_is : AreParts → IsSoundWorld (world_of_lists l) → list_all (λ a. has_key pool_cmp l.stakes.mark a.0) l.frozen.pool_accounts ≡ true → world_of_parts books_with copy p ≡ world_of_lists l
  world_is h s all = same_world h (accounts_are (frozen_of_lists l) s.mark.pools s.frozen.pool_accounts all)

  -- and they hold together
  pub held : AreParts → IsSoundWorld (world_of_lists l) → list_all (λ a. has_key pool_cmp l.stakes.mark a.0) l.frozen.pool_accounts ≡ true → IsPulserOf (frozen_of_lists l) p → IsHeldBy (world_of_parts books_with copy p) copy p
  held h s all counts = subst (λ (w : World). IsHeldBy w copy p) (sym (world_is h s all)) (record { sound = s; copied = h.copied; counts = counts })

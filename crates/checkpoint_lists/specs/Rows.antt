-- What the lines of a checkpoint say, kind by kind, with the words of those lines. (Own)
use Rattle.std.specs.Prelude.{ℕ, Bool, ◌&&◌, List, [], ◌∷◌, ◌++◌, Option, codes, flat_map, map}
use Rattle.std.specs.List.{list_all}
use Rattle.maps.specs.Words.{none_or}
use Rattle.coin_frac.specs.Fraction.{Fraction}
use Rattle.gov_ids.specs.declared.Account.{Account}
use Rattle.gov_ids.specs.declared.ActionId.{ActionId}
use Rattle.gov_ids.specs.declared.Address.{Address}
use Rattle.gov_ids.specs.declared.assets.AssetId.{AssetId}
use Rattle.gov_ids.specs.declared.Credential.{Credential}
use Rattle.gov_ids.specs.declared.OutRef.{OutRef}
use Rattle.gov_ids.specs.declared.PoolId.{PoolId}
use Rattle.gov_ids.specs.declared.TxId.{TxId}
use Rattle.gov_ids.specs.declared.Voter.{Voter}
use Rattle.book_records.specs.declared.DrepState.{DrepState}
use Rattle.book_records.specs.declared.Entry.{Entry}
use Rattle.book_records.specs.declared.pool.Pool.{Pool}
use Rattle.book_records.specs.declared.pool.PoolTerms.{PoolTerms}
use Rattle.gov_actions.specs.declared.action.Vote.{Vote}
use Rattle.gov_actions.specs.declared.state.HotState.{HotState}
use Rattle.gov_actions.specs.declared.state.LastIds.{LastIds}
use Rattle.text_forms.specs.Books as books
use Rattle.text_forms.specs.Ids.{is_action_id, is_tx_id, is_unit}
use Rattle.text_forms.specs.Snapshots.{expiry_words}
use Rattle.text_forms.specs.States.{are_last_ids}
use Rattle.text_model.specs.StateLines.{account_words, asset_words, drep_words, hot_words, noted_fees_words, pending_reward_words, snapshot_words, words_of_enacted}
use Rattle.text_model.specs.Words.{Text}
use Rattle.tx_records.specs.declared.report.Pots.{Pots}
use Rattle.tx_records.specs.Limits.{is_u64}
use Rattle.checkpoint_model.specs.Checkpoint.{frozen, used_words}
use Rattle.book_kinds.specs.Books.{is_vote_line, vote_line}
use Rattle.book_kinds.specs.Frozen.{is_pool_account_line, pool_account_line, proposal_id_line}
use Rattle.book_kinds.specs.Outputs.{is_output_line, output_line}
use Rattle.book_kinds.specs.Pools.{is_next_line, is_pool_line, next_line, pool_line}
use Rattle.state_kinds.specs.declared.proposals.ProposalRow.{ProposalRow}
use Rattle.state_kinds.specs.Heads.{head_line, is_head_line, is_now_line, now_line}
use Rattle.state_kinds.specs.Proposals.{is_proposal_line, proposal_line}
use Rattle.state_kinds.specs.States.{committee_line, constitution_line, end_line, is_constitution_line, is_member_line, is_pending_line, member_line, treasury_line}
use Rattle.checkpoint_lists.specs.declared.gathered.Amounts.{Amounts}
use Rattle.checkpoint_lists.specs.declared.gathered.Books.{Books}
use Rattle.checkpoint_lists.specs.declared.gathered.FrozenRows.{FrozenRows}
use Rattle.checkpoint_lists.specs.declared.gathered.Governance.{Governance}
use Rattle.checkpoint_lists.specs.declared.gathered.Stakes.{Stakes}
use Rattle.checkpoint_lists.specs.Pots.{are_pots, pending_or_none, pots_line}

-- ---- an item with the lines behind it

-- the line of an item, and a line for each that is behind it
abbrev pub rows_of : {A B : Type 0} → (A → List Text) → (B → List Text) → A × List B → List (List Text)
rows_of line inner x = line x.0 ∷ map inner x.1

-- an item and those behind it have their forms
abbrev pub are_rows : {A B : Type 0} → (A → Bool) → (B → Bool) → A × List B → Bool
are_rows form inner x = form x.0 && list_all inner x.1

-- ---- the lines

-- from the first line to the last enacted ids, without the parameters
abbrev pub governance_rows : Governance → List (List Text)
governance_rows g =
    head_line g.head ∷ now_line g.now ∷ constitution_line g.constitution ∷ committee_line g.threshold ∷ []
    ++ map member_line g.members
    ++ map hot_words g.hot
    ++ words_of_enacted g.last ∷ []

-- the books
abbrev pub book_rows : Books → List (List Text)
book_rows b =
    map drep_words b.dreps
    ++ flat_map (rows_of pool_line next_line) b.pools
    ++ map account_words b.entries
    ++ flat_map (rows_of output_line asset_words) b.outputs
    ++ flat_map (rows_of proposal_line vote_line) b.proposals

-- the stakes of pools and the noted fees
abbrev pub stake_rows : Stakes → List (List Text)
stake_rows s =
    map (snapshot_words (codes "mark")) s.mark
    ++ map (snapshot_words (codes "set")) s.set
    ++ map (snapshot_words (codes "go")) s.go
    ++ noted_fees_words s.noted_fees ∷ []

-- what is pending, the pots, and the used ids
abbrev pub amount_rows : Amounts → List (List Text)
amount_rows a =
    pending_or_none a.pending ∷ []
    ++ map pending_reward_words a.rewards
    ++ pots_line a.pots ∷ []
    ++ map used_words a.used

-- what is frozen, and the end
abbrev pub frozen_rows : FrozenRows → List (List Text)
frozen_rows f =
    frozen (treasury_line f.treasury) ∷ []
    ++ map (λ e. frozen (account_words e)) f.entries
    ++ map (λ d. frozen (expiry_words d)) f.dreps
    ++ map (λ h. frozen (hot_words h)) f.hot
    ++ map (λ p. frozen (pool_account_line p)) f.pools
    ++ flat_map (rows_of (λ p. frozen (proposal_id_line p)) (λ v. frozen (vote_line v))) f.proposals
    ++ end_line ∷ []

-- ---- their form: what a single line shows

-- the head, the clock, the constitution, the committee and the last ids
abbrev pub has_governance_form : Governance → Bool
has_governance_form g =
    is_head_line g.head && is_now_line g.now && is_constitution_line g.constitution && none_or is_unit g.threshold
    && list_all is_member_line g.members && list_all books.is_hot g.hot && are_last_ids g.last

-- DReps, pools, account entries, outputs and proposals
abbrev pub have_book_form : Books → Bool
have_book_form b =
    list_all books.is_drep b.dreps && list_all (are_rows is_pool_line is_next_line) b.pools && list_all books.is_entry b.entries
    && list_all (are_rows is_output_line books.is_held_asset) b.outputs && list_all (are_rows is_proposal_line is_vote_line) b.proposals

-- the stakes of pools at the last boundaries, and the noted fees
abbrev pub have_stake_form : Stakes → Bool
have_stake_form s = list_all books.is_stake s.mark && list_all books.is_stake s.set && list_all books.is_stake s.go && is_u64 s.noted_fees

-- the pending update, the pots and the used ids
abbrev pub have_amount_form : Amounts → Bool
have_amount_form a =
    none_or is_pending_line a.pending && list_all books.is_amount a.rewards && are_pots a.pots && list_all is_tx_id a.used

-- what is frozen
abbrev pub has_frozen_form : FrozenRows → Bool
has_frozen_form f =
    is_u64 f.treasury && list_all books.is_entry f.entries && list_all books.is_frozen_drep f.dreps && list_all books.is_hot f.hot
    && list_all is_pool_account_line f.pools && list_all (are_rows is_action_id is_vote_line) f.proposals

-- ---- their items, one after another

-- of the governance
abbrev pub governance_items : Governance → (ℕ × ℕ × ℕ × ℕ) × ((ℕ × ℕ × (ℕ × ℕ) × ℕ) × ((List ℕ × Option (List ℕ)) × (Option Fraction × (List ((Credential × ℕ) × Option HotState) × (List (Credential × HotState) × LastIds)))))
governance_items g = (g.head, (g.now, (g.constitution, (g.threshold, (g.members, (g.hot, g.last))))))

-- of the books
abbrev pub book_items : Books → List (Credential × DrepState) × (List ((PoolId × Pool) × List (PoolId × PoolTerms)) × (List (Credential × Entry) × (List ((OutRef × (Address × ℕ)) × List (AssetId × ℕ)) × List (ProposalRow × List (ActionId × (Voter × Vote))))))
book_items b = (b.dreps, (b.pools, (b.entries, (b.outputs, b.proposals))))

-- of the stakes
abbrev pub stake_items : Stakes → List (PoolId × ℕ) × (List (PoolId × ℕ) × (List (PoolId × ℕ) × ℕ))
stake_items s = (s.mark, (s.set, (s.go, s.noted_fees)))

-- of the amounts
abbrev pub amount_items : Amounts → Option (ℕ × ℕ × ℕ) × (List (Credential × ℕ) × (Pots × List TxId))
amount_items a = (a.pending, (a.rewards, (a.pots, a.used)))

-- of what is frozen
abbrev pub frozen_items : FrozenRows → (ℕ × List (Credential × Entry)) × ((List (Credential × ℕ) × List (Credential × HotState)) × (List (PoolId × Option Account) × (List (ActionId × List (ActionId × (Voter × Vote))) × Unit {0})))
frozen_items f = ((f.treasury, f.entries), ((f.dreps, f.hot), (f.pools, (f.proposals, tt))))

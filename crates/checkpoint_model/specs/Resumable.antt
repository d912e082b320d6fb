-- When a World is sound to be resumed: what every World that records reach keeps.
-- It is said of what the checkpoint shows. (Own)
use Rattle.std.specs.Prelude.{◌≡◌, ℕ, ◌+◌, ◌/◌, ◌^◌, ◌==◌, Bool, true, ◌&&◌, ◌||◌, List, [], filter, is_some, map, nat_le, nat_lt}
use Rattle.std.specs.List.{list_all}
use Rattle.maps.specs.Maps.{has_member, sum_values}
use Rattle.maps.specs.Words.{is_empty, none_or, with_fronts}
use Rattle.gov_ids.specs.declared.Credential.{Credential}
use Rattle.gov_ids.specs.declared.Drep.{Drep}
use Rattle.gov_ids.specs.declared.Drep.TheVariants as drep
use Rattle.gov_ids.specs.declared.PoolId.{PoolId}
use Rattle.gov_ids.specs.Orders.{credential_cmp, outref_cmp, pool_cmp, txid_cmp}
use Rattle.book_records.specs.declared.DrepState.{DrepState}
use Rattle.book_records.specs.declared.Entry.{Entry}
use Rattle.book_records.specs.declared.Output.{Output}
use Rattle.book_records.specs.declared.Registered.{Registered}
use Rattle.gov_ids.specs.declared.OutRef.{OutRef}
use Rattle.gov_actions.specs.declared.action.Proposal.{Proposal}
use Rattle.text_forms.specs.of_gov_model.Lineage.{may_follow}
use Rattle.text_forms.specs.of_gov_model.Proposals.{deposits_of}
use Rattle.text_forms.specs.of_gov_model.Ratified.{ids_of, is_one_of}
use Rattle.text_forms.specs.of_gov_model.Snapshot.{entry_count}
use Rattle.coin_frac.specs.declared.TheConstants.{SUPPLY_LIMIT}
use Rattle.tx_records.specs.declared.record.Rewards.{Rewards}
use Rattle.tx_records.specs.Limits.{is_network, is_slot, is_u32, is_u64}
use Rattle.text_forms.specs.of_ledger_model.Ledger.{Ledger, is_drep, is_pool}
use Rattle.text_forms.specs.of_ledger_model.Supply.{supply_of}
use Rattle.text_forms.specs.of_run_model.SoundWorld.{held_by}
use Rattle.text_forms.specs.of_run_model.Step.{rewards_in, rewards_out}
use Rattle.text_forms.specs.of_run_model.World.{World}
use Rattle.text_forms.specs.Actions.{are_proposals}
use Rattle.text_forms.specs.Books as books
use Rattle.text_forms.specs.Ids.{is_map, is_rising, is_tx_id}
use Rattle.text_forms.specs.Lines.{are_short_lines}
use Rattle.text_forms.specs.Snapshots.{are_stakes, is_snapshot}
use Rattle.text_forms.specs.States.{is_state}
use Rattle.checkpoint_model.specs.Checkpoint.{checkpoint_lines}

-- ---- the form

-- the numbers of the ledger are in their ranges
abbrev pub has_plain_form : Ledger → Bool
has_plain_form l =
    is_network l.network && nat_lt 0 l.epoch_length && is_u32 l.epoch_length && is_u64 l.supply && is_slot l.slot
    && is_u64 l.dormant && is_u64 l.reserves && is_u64 l.fees && is_u64 l.donations

-- its lists are in order, each name once, and their contents have the form of the formats
abbrev pub has_book_form : Ledger → Bool
has_book_form l =
    is_map outref_cmp l.outputs && list_all books.is_output l.outputs
    && is_rising txid_cmp l.used && list_all is_tx_id l.used
    && is_map credential_cmp l.accounts && list_all books.is_account l.accounts
    && is_map pool_cmp l.pools && list_all books.is_pool l.pools
    && is_map credential_cmp l.dreps && list_all books.is_drep l.dreps
    && is_map credential_cmp l.hot && list_all books.is_hot l.hot
    && are_proposals l.proposals

-- a pending update, its rewards in order of credential
abbrev pub is_pending_form : Rewards → Bool
is_pending_form u = books.are_rewards u && is_map credential_cmp u.rewards

-- the whole state
abbrev pub has_form : World → Bool
has_form w =
    has_plain_form w.ledger && is_state w.ledger.state && has_book_form w.ledger && none_or is_pending_form w.pending
    && are_stakes w.mark && are_stakes w.set && are_stakes w.go && is_u64 w.noted_fees && is_snapshot w.frozen

-- ---- the ledger

-- the epoch is that of the slot
abbrev pub is_timed : Ledger → Bool
is_timed l = l.epoch == l.slot / l.epoch_length

-- no epoch is dormant while a proposal is live, nor are more dormant than epochs ended;
-- each expiry is within its bound
abbrev pub is_within_dormant_bound : Ledger → Bool
is_within_dormant_bound l =
    (l.dormant == 0 || is_empty l.proposals) && nat_le l.dormant l.epoch
    && list_all (λ (e : Credential × DrepState). nat_le (e.1.expiry + l.dormant) (2 ^ 62 + 2 ^ 32 + l.epoch)) l.dreps

-- a DRep is predefined or registered
abbrev pub is_there : Ledger → Drep → Bool
is_there l (drep.Registered c) = is_drep l c
is_there l drep.Abstain = true
is_there l drep.NoConfidence = true

-- each account delegates to a registered pool and DRep, if at all
abbrev pub delegates_to_registered : Ledger → Bool
delegates_to_registered l =
    list_all (λ (a : Credential × Registered). none_or (is_pool l) a.1.pool && none_or (is_there l) a.1.drep) l.accounts

-- the pots hold the supply, which is within its limit
abbrev pub holds_supply : Ledger → Bool
holds_supply l = supply_of l == l.supply && nat_le l.supply SUPPLY_LIMIT

-- the transaction of each output and of each proposal is a used one
abbrev pub uses_ids : Ledger → Bool
uses_ids l =
    list_all (λ (o : OutRef × Output). has_member txid_cmp l.used o.0.tx) l.outputs
    && list_all (λ (p : Proposal). has_member txid_cmp l.used p.id.tx) l.proposals

-- each proposal with a purpose names its last enacted action or an earlier live proposal of it
abbrev pub are_chained : Ledger → Bool
are_chained l = list_all (λ p. may_follow p.0 l.state.last p.1.action) (with_fronts l.proposals)

-- ---- what epochs add

-- a pending update is of the current epoch, balanced and covered
abbrev pub is_covered : Ledger → Rewards → Bool
is_covered l u =
    u.epoch == l.epoch && rewards_in u == rewards_out u && nat_le u.from_reserves l.reserves && nat_le u.from_fees l.fees

-- the stakes of a snapshot of pools add up to at most the supply
abbrev pub are_within : ℕ → List (PoolId × ℕ) → Bool
are_within supply stakes = nat_le (sum_values (λ n. n) stakes) supply

-- each is at most the supply: each snapshot of pools, the noted fees,
-- and what frozen entries hold with the deposits of the frozen proposals
abbrev pub is_within_supply : World → Bool
is_within_supply w =
    are_within w.ledger.supply w.mark && are_within w.ledger.supply w.set && are_within w.ledger.supply w.go
    && nat_le w.noted_fees w.ledger.supply
    && nat_le (sum_values held_by w.frozen.entries + deposits_of w.frozen.proposals) w.ledger.supply

-- a frozen entry is registered, or has output stake
abbrev pub is_counted_entry : Credential × Entry → Bool
is_counted_entry e = is_some e.1.registered || nat_lt 0 e.1.stake

-- a proposal without its votes
abbrev pub unvoted : Proposal → Proposal
unvoted p = record p { votes = [] }

-- the live proposals of these ids
abbrev pub live_of : List Proposal → List Proposal → List Proposal
live_of ps live = filter (is_one_of (ids_of ps)) live

-- ---- all of it

-- a World is sound to be resumed
pub record IsResumable (w : World) : Type 0 where
  pub form : has_form w ≡ true
  pub time : is_timed w.ledger ≡ true
  pub dormancy : is_within_dormant_bound w.ledger ≡ true
  pub delegations : delegates_to_registered w.ledger ≡ true
  pub supply : holds_supply w.ledger ≡ true
  pub ids : uses_ids w.ledger ≡ true
  pub chains : are_chained w.ledger ≡ true
  pub pending : none_or (is_covered w.ledger) w.pending ≡ true
  pub within : is_within_supply w ≡ true
  pub entries : list_all is_counted_entry w.frozen.entries ≡ true
  pub counted : nat_le w.counted (entry_count w.frozen) ≡ true
  -- the frozen parts are of this epoch, with its mark
  -- the frozen state is the current one, except for the treasury, which has not lost
  pub epoch : w.frozen.epoch ≡ w.ledger.epoch
  pub mark : w.frozen.mark ≡ w.mark
  pub state : w.frozen.start ≡ record w.ledger.state { treasury = w.frozen.start.treasury }
  pub treasury : nat_le w.frozen.start.treasury w.ledger.state.treasury ≡ true
  -- the frozen proposals are live and in the same order; at most their votes have changed
  pub proposals : map unvoted (live_of w.frozen.proposals w.ledger.proposals) ≡ map unvoted w.frozen.proposals
  -- no line of a checkpoint is too long; only the first one has the number of the line
  pub short : are_short_lines (checkpoint_lines w 0) ≡ true

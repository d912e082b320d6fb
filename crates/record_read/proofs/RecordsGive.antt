-- A record that was read is within the limits.
use Rattle.std.proofs.Common.{◌≡◌, ℕ, true, not, ◌&&◌, List, Option, Some, None, Result, Ok, Err, refl, ap}
use Rattle.std.specs.Prelude.{IfOk, codes, bytes_eq, nat_le, nat_lt}
use Rattle.std.specs.List.{list_all}
use Rattle.std.proofs.lemmas.Bool.{and_parts}
use Rattle.std.proofs.lemmas.Result.{IfOk-at_ok}
use Rattle.gov_ids.proofs.Totals.{account_total, credential_total}
use Rattle.gov_ids.specs.Orders.{account_cmp}
use Rattle.maps.specs.Words.{none_or}
use Rattle.tx_records.specs.declared.field.FieldName.TheVariants as fields
use Rattle.tx_records.specs.declared.genesis.GenesisCommittee.{GenesisCommittee}
use Rattle.tx_records.specs.declared.limits.TheConstants.{LEAST_MAJOR, LIST_LIMIT, OUTPUT_LIMIT, TX_LIST_LIMIT}
use Rattle.tx_records.specs.declared.record.Record.{Record}
use Rattle.tx_records.specs.declared.tx.ProposalRecord.{ProposalRecord}
use Rattle.tx_records.specs.GenesisLimits as genesis_limits
use Rattle.tx_records.specs.Limits.{are_assets, is_mint, is_u32, is_u64, is_network, is_output, is_action, is_at_most, is_slot, are_params, genesis_members}
use Rattle.tx_records.specs.RecordLimits.{is_within_limits}
use Rattle.tx_records.specs.RewardsLimits as rewards_limits
use Rattle.tx_records.specs.TxLimits as tx_limits
use Rattle.json_fields.specs.declared.fault.FieldFault.{FieldFault}
use Rattle.json_fields.specs.Entries.{needed_in}
use Rattle.json_fields.specs.Kinds.{text_in, u64_in, hash28_in, hash32_in, credential_in, account_in, ref_in, tx_id_in}
use Rattle.json_fields.specs.Steps.{or_fault}
use Rattle.record_read.specs.declared.fault.RecordFault.{RecordFault}
use Rattle.record_read.specs.declared.records.Times.{Times}
use Rattle.record_read.specs.declared.records.Funds.{Funds}
use Rattle.record_read.specs.declared.records.Founding.{Founding}
use Rattle.record_read.specs.declared.records.Registered.{Registered}
use Rattle.record_read.specs.declared.records.Payment.{Payment}
use Rattle.record_read.specs.declared.records.Terms.{Terms}
use Rattle.record_read.specs.declared.records.Transfers.{Transfers}
use Rattle.record_read.specs.declared.records.Acts.{Acts}
use Rattle.record_read.specs.Entries.{genesis_account_in, genesis_pool_in, proposal_in, vote_record_in}
use Rattle.record_read.specs.Certs.{cert_in}
use Rattle.record_read.specs.Fields.{needed, optional}
use Rattle.record_read.specs.LineFaults.{BadJson}
use Rattle.record_read.specs.Lines.{json_of, record_of_line}
use Rattle.record_read.specs.Reads.{ReadsRecord}
use Rattle.record_read.specs.Records.{times_in, funds_in, founding_in, registered_in, genesis_in, block_in, rewards_in, payment_in, form_in, terms_in, transfers_in, acts_in, tx_in, what_in, print_in, record_of_kind, record_by}
use Rattle.record_read.proofs.Gives.{both, Gives, Within, IsListOf, IsDistinctListOf, given, next, skip, or_else, anything, needed_in-within, both_in-within, list_in-within, distinct_list_in-within, none_fit, none_twice, needed-within, optional-within, defaulted-within, needed_list-within, optional_list-within}
use Rattle.record_read.proofs.KindsGive.{u64_in-within, u32_in-within, slot_in-within, network_in-within, epoch_length_in-within, genesis_version_in-within, is_committee, committee_in-within, genesis_drep_in-within, genesis_output_in-within, output_in-within, params_in-within, is_target, is_target-within, action_in-within}
use Rattle.record_read.proofs.AssetsGive.{mint_in-within}

abbrev IsWithin : Record → Type 0
IsWithin r = is_within_limits r ≡ true

rewards_in-within : Within (λ u. rewards_limits.is_within_limits u ≡ true) rewards_in
unfolding rewards_in
rewards_in-within d =
    skip (needed fields.Epoch u64_in d) (λ epoch.
    next (needed-within u64_in-within fields.FromReserves d) (λ from_reserves a.
    next (needed-within u64_in-within fields.FromFees d) (λ from_fees b.
    next (needed-within u64_in-within fields.ToTreasury d) (λ to_treasury c.
    next (needed_list-within (distinct_list_in-within (both_in-within {R = λ r. is_u64 r.1 ≡ true} (anything credential_in) u64_in-within (λ a b u v. v)) credential_total (λ r. r.0) LIST_LIMIT) fields.Rewards d) (λ rewards r. given (cc))))))

proposal_in-within : Within (λ p. is_action p.action ≡ true) proposal_in
unfolding proposal_in
proposal_in-within d =
    skip (needed_in (codes "deposit") u64_in d) (λ deposit. skip (needed_in (codes "return") account_in d) (λ account.
    next (needed_in-within action_in-within (codes "action") d) (λ action a. given a)))

record PaymentWithin (p : Payment) : Type 0 where
  inputs : IsListOf TX_LIST_LIMIT (λ _. true) p.inputs
  outputs : IsListOf OUTPUT_LIMIT is_output p.outputs
  fee : is_u64 p.fee ≡ true

payment_in-within : Within PaymentWithin payment_in
unfolding payment_in
payment_in-within d =
    skip (needed fields.Id tx_id_in d) (λ id.
    next (needed_list-within (list_in-within (anything ref_in) TX_LIST_LIMIT) fields.Inputs d) (λ inputs i.
    next (needed_list-within (list_in-within output_in-within OUTPUT_LIMIT) fields.Outputs d) (λ outputs o.
    next (needed-within u64_in-within fields.Fee d) (λ fee f. given (record { inputs = i; outputs = o; fee = f })))))

record TermsWithin (t : Terms) : Type 0 where
  from : none_or is_slot t.from ≡ true
  until : none_or is_slot t.until ≡ true
  collateral : IsListOf TX_LIST_LIMIT (λ _. true) t.collateral
  collateral_return : none_or is_output t.collateral_return ≡ true
  mint : is_mint t.mint ≡ true

terms_in-within : Within TermsWithin terms_in
unfolding terms_in
terms_in-within d =
    next (optional-within slot_in-within fields.From d) (λ from s.
    next (optional-within slot_in-within fields.Until d) (λ until u.
    next (optional_list-within (list_in-within (anything ref_in) TX_LIST_LIMIT) (none_fit TX_LIST_LIMIT) fields.Collateral d) (λ collateral c.
    next (optional-within output_in-within fields.CollateralReturn d) (λ collateral_return r.
    next (mint_in-within d) (λ mint m.
    given (record { from = s; until = u; collateral = c; collateral_return = r; mint = m }))))))

record TransfersWithin (t : Transfers) : Type 0 where
  donation : is_u64 t.donation ≡ true
  withdrawals : IsDistinctListOf account_cmp (λ x. x.0) TX_LIST_LIMIT is_target t.withdrawals

transfers_in-within : Within TransfersWithin transfers_in
unfolding transfers_in
transfers_in-within d =
    skip (optional fields.Treasury u64_in d) (λ treasury.
    next (defaulted-within u64_in-within fields.Donation 0 refl d) (λ donation g.
    next (optional_list-within (distinct_list_in-within is_target-within account_total (λ x. x.0) TX_LIST_LIMIT) (none_twice TX_LIST_LIMIT) fields.Withdrawals d) (λ withdrawals w.
    given (record { donation = g; withdrawals = w }))))

record ActsWithin (a : Acts) : Type 0 where
  certs : IsListOf TX_LIST_LIMIT (λ _. true) a.certs
  proposals : IsListOf TX_LIST_LIMIT (λ (p : ProposalRecord). is_action p.action) a.proposals
  votes : IsListOf TX_LIST_LIMIT (λ _. true) a.votes

acts_in-within : Within ActsWithin acts_in
unfolding acts_in
acts_in-within d =
    next (optional_list-within (list_in-within (anything cert_in) TX_LIST_LIMIT) (none_fit TX_LIST_LIMIT) fields.Certs d) (λ certs e.
    next (optional_list-within (list_in-within proposal_in-within TX_LIST_LIMIT) (none_fit TX_LIST_LIMIT) fields.Proposals d) (λ proposals p.
    next (optional_list-within (list_in-within (anything vote_record_in) TX_LIST_LIMIT) (none_fit TX_LIST_LIMIT) fields.Votes d) (λ votes v.
    given (record { certs = e; proposals = p; votes = v }))))

short_lists : (p : Payment) (t : Terms) (w : Transfers) (a : Acts) → PaymentWithin p → TermsWithin t → TransfersWithin w → ActsWithin a
    → (is_at_most TX_LIST_LIMIT p.inputs && is_at_most OUTPUT_LIMIT p.outputs && is_at_most TX_LIST_LIMIT t.collateral
    && is_at_most TX_LIST_LIMIT w.withdrawals && is_at_most TX_LIST_LIMIT a.certs && is_at_most TX_LIST_LIMIT a.proposals
    && is_at_most TX_LIST_LIMIT a.votes) ≡ true
short_lists p t w a hp ht hw ha =
    both (both (both (both (both (both hp.inputs.few hp.outputs.few) ht.collateral.few) hw.withdrawals.few) ha.certs.few) ha.proposals.few) ha.votes.few

tx_in-within : Within (λ tx. tx_limits.is_within_limits tx ≡ true) tx_in
unfolding tx_in
tx_in-within d =
    next (payment_in-within d) (λ payment p.
    skip (form_in d) (λ form.
    next (terms_in-within d) (λ terms t.
    next (transfers_in-within d) (λ transfers w.
    next (acts_in-within d) (λ acts a.
    let short = short_lists payment terms transfers acts p t w a in
    given (both (both (both (both (both (both (both (both (both short (ap not w.withdrawals.once)) a.proposals.each) p.outputs.each) t.collateral_return) t.mint) t.from) t.until) p.fee) w.donation))))))

members_within : (o : Option GenesisCommittee) → none_or is_committee o ≡ true → (is_at_most LIST_LIMIT (genesis_members o) && list_all (λ m. is_slot m.1) (genesis_members o)) ≡ true
members_within None h = refl
members_within (Some c) h = h

record TimesWithin (t : Times) : Type 0 where
  network : is_network t.network ≡ true
  slot : is_slot t.slot ≡ true
  epoch_length : (nat_lt 0 t.epoch_length && is_u32 t.epoch_length) ≡ true
  version : nat_le LEAST_MAJOR t.version.0 ≡ true

times_in-within : Within TimesWithin times_in
unfolding times_in
times_in-within d =
    next (needed-within network_in-within fields.Network d) (λ network n.
    next (needed-within slot_in-within fields.Slot d) (λ slot s.
    next (needed-within epoch_length_in-within fields.EpochLength d) (λ epoch_length l.
    next (needed-within genesis_version_in-within fields.Version d) (λ version v.
    given (record { network = n; slot = s; epoch_length = l; version = v })))))

record FundsWithin (p : Funds) : Type 0 where
  supply : is_u64 p.supply ≡ true
  params : are_params p.params ≡ true

funds_in-within : Within FundsWithin funds_in
unfolding funds_in
funds_in-within d =
    next (needed-within u64_in-within fields.Supply d) (λ supply u.
    skip (needed fields.Reserves u64_in d) (λ reserves.
    skip (needed fields.Treasury u64_in d) (λ treasury.
    next (needed-within params_in-within fields.Params d) (λ params p. given (record { supply = u; params = p })))))

record FoundingWithin (f : Founding) : Type 0 where
  committee : none_or is_committee f.committee ≡ true
  outputs : IsListOf LIST_LIMIT (λ o. are_assets o.3) f.outputs

founding_in-within : Within FoundingWithin founding_in
unfolding founding_in
founding_in-within d =
    skip (needed fields.Document hash32_in d) (λ document.
    skip (optional fields.Script hash28_in d) (λ script.
    next (optional-within committee_in-within fields.Committee d) (λ committee c.
    next (needed_list-within (list_in-within genesis_output_in-within LIST_LIMIT) fields.Outputs d) (λ outputs o.
    given (record { committee = c; outputs = o })))))

record RegisteredWithin (r : Registered) : Type 0 where
  accounts : IsListOf LIST_LIMIT (λ _. true) r.accounts
  pools : IsListOf LIST_LIMIT (λ _. true) r.pools
  dreps : IsListOf LIST_LIMIT (λ x. is_slot x.2) r.dreps

registered_in-within : Within RegisteredWithin registered_in
unfolding registered_in
registered_in-within d =
    next (needed_list-within (list_in-within (anything genesis_account_in) LIST_LIMIT) fields.Accounts d) (λ accounts a.
    next (needed_list-within (list_in-within (anything genesis_pool_in) LIST_LIMIT) fields.Pools d) (λ pools q.
    next (needed_list-within (list_in-within genesis_drep_in-within LIST_LIMIT) fields.Dreps d) (λ dreps e.
    given (record { accounts = a; pools = q; dreps = e }))))

genesis_in-within : Within (λ g. genesis_limits.is_within_limits g ≡ true) genesis_in
unfolding genesis_in
genesis_in-within d =
    next (times_in-within d) (λ times t.
    next (funds_in-within d) (λ funds p.
    next (founding_in-within d) (λ founding f.
    next (registered_in-within d) (λ registered r.
    let length = and_parts (nat_lt 0 times.epoch_length) (is_u32 times.epoch_length) t.epoch_length in
    let members = and_parts (is_at_most LIST_LIMIT (genesis_members founding.committee)) (list_all (λ m. is_slot m.1) (genesis_members founding.committee)) (members_within founding.committee f.committee) in
    let counted = both (both (both (both (both t.network t.slot) length.0) length.1) t.version) f.outputs.few in
    let few = both (both (both (both counted r.accounts.few) r.pools.few) r.dreps.few) members.0 in
    given (both (both (both (both (both few members.1) r.dreps.each) p.params) p.supply) f.outputs.each)))))

record_of_kind-within : (kind : List ℕ) → Within IsWithin (record_of_kind kind)
unfolding block_in print_in
record_of_kind-within kind d =
    or_else (bytes_eq kind (codes "genesis")) (next (genesis_in-within d) (λ g e. given e))
    (or_else (bytes_eq kind (codes "block"))
    (next (needed-within slot_in-within fields.Slot d) (λ slot s. next (needed-within u32_in-within fields.Pulse d) (λ pulse p. given (cc))))
    (or_else (bytes_eq kind (codes "rewards")) (next (rewards_in-within d) (λ u e. given e))
    (or_else (bytes_eq kind (codes "tx")) (next (tx_in-within d) (λ tx e. given e))
    (or_else (bytes_eq kind (codes "print")) (skip (needed fields.What what_in d) (λ what. given refl)) (record { holds = tt })))))

record_by-within : (kind : Result (List ℕ) FieldFault) → Within IsWithin (record_by kind)
record_by-within (Ok kind) d = record_of_kind-within kind d
record_by-within (Err fault) d = record { holds = tt }

-- whatever a line reads as is within the limits
pub record_of_line-within : (line : List ℕ) → IfOk (record_of_line line) (λ r. is_within_limits r ≡ true)
record_of_line-within line =
    let g : Gives IsWithin (record_of_line line) = skip (or_fault BadJson (json_of line)) (λ d. record_by-within (needed_in (codes "kind") text_in d) d) in g.holds

-- so is what a reader answers
pub within_from_reads : (line : List ℕ) (result : Result Record RecordFault) → ReadsRecord result (record_of_line line) → IfOk result (λ r. is_within_limits r ≡ true)
within_from_reads line (Ok r) h = IfOk-at_ok (λ r. is_within_limits r ≡ true) h (record_of_line-within line)
within_from_reads line (Err e) h = tt

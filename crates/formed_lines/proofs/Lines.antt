-- A record that was read has the form of the formats.
use Rattle.std.proofs.Common.{◌≡◌, ℕ, true, List, Result, Ok, Err, codes, bytes_eq, nat_le, refl}
use Rattle.std.specs.List.{list_all}
use Rattle.std.proofs.lemmas.Bool.{and_from}
use Rattle.serde_json.specs.Data.{Data}
use Rattle.gov_ids.proofs.Totals.{credential_total}
use Rattle.maps.specs.Words.{none_or}
use Rattle.tx_records.specs.declared.field.FieldName.TheVariants as fields
use Rattle.tx_records.specs.declared.limits.TheConstants.{LEAST_MAJOR, LIST_LIMIT, OUTPUT_LIMIT, TX_LIST_LIMIT}
use Rattle.tx_records.specs.declared.record.Record.{Record}
use Rattle.tx_records.specs.Limits.{is_u32, is_u64}
use Rattle.json_fields.specs.declared.fault.FieldFault.{FieldFault}
use Rattle.json_fields.specs.declared.fault.FieldFault.TheVariants.{OutOfRange}
use Rattle.json_fields.specs.Entries.{both_in, needed_in}
use Rattle.json_fields.specs.Kinds.{credential_in, ref_in, text_in, u32_in, u64_in}
use Rattle.json_fields.specs.Steps.{or_fault}
use Rattle.text_forms.specs.Actions.{is_version}
use Rattle.text_forms.specs.Books.{are_rewards, is_amount}
use Rattle.text_forms.specs.Ids.{is_credential, is_hash, is_tx_id}
use Rattle.text_forms.specs.States.{are_params}
use Rattle.record_read.specs.Entries.{epoch_length_in, genesis_version_in, network_in, slot_in}
use Rattle.record_read.specs.Fields.{needed, needed_list, optional, optional_list}
use Rattle.record_read.specs.LineFaults.{BadJson}
use Rattle.record_read.specs.Lines.{json_of, record_of_line}
use Rattle.record_read.specs.Records.{acts_in, block_in, form_in, founding_in, funds_in, genesis_in, mint_in, payment_in, print_in, record_by, record_of_kind, registered_in, rewards_in, terms_in, times_in, transfers_in, tx_in, what_in}
use Rattle.record_read.proofs.Gives.{Gives, Within, both_in-within, distinct_list_in-within, given, if_test, list_in-within, needed-within, needed_list-within, next, none_fit, optional-within, optional_list-within, or_else, skip}
use Rattle.record_read.proofs.KindsGive.{u32_in-within, u64_in-within}
use Rattle.formed_laws.specs.Records.{is_cast, is_cert, is_first_account, is_first_committee, is_first_drep, is_first_output, is_first_pool, is_formed, is_formed_genesis, is_formed_tx, is_made_output, is_proposed}
use Rattle.formed_lines.specs.Laws.{LinesGiveFormed}
use Rattle.formed_lines.proofs.Entries.{cert_in-formed, committee_in-formed, genesis_account_in-formed, genesis_drep_in-formed, genesis_output_in-formed, genesis_pool_in-formed, output_in-formed, proposal_in-formed, vote_record_in-formed}
use Rattle.formed_lines.proofs.Ids.{credential_in-formed, hash_in-formed, tx_id_in-formed}
use Rattle.formed_lines.proofs.Updates.{params_in-formed}

-- the property of what a reading gives, from what it is of
abbrev Giving : {A E : Type 0} → (Data → Result A E) → (A → Type 0) → Type 0
Giving reading P = Within P reading

abbrev IsFormedRecord : Record → Type 0
IsFormedRecord r = is_formed r ≡ true

-- ---- a reward update

amount_is : Within (λ r. is_amount r ≡ true) (both_in credential_in u64_in)
amount_is = both_in-within {R = λ r. is_amount r ≡ true} credential_in-formed u64_in-within (λ a b u v. and_from (is_credential a) (is_u64 b) u v)

rewards_in-formed : Within (λ u. are_rewards u ≡ true) rewards_in
unfolding rewards_in
rewards_in-formed d =
    next (needed-within u64_in-within fields.Epoch d) (λ epoch e.
    next (needed-within u64_in-within fields.FromReserves d) (λ from_reserves a.
    next (needed-within u64_in-within fields.FromFees d) (λ from_fees b.
    next (needed-within u64_in-within fields.ToTreasury d) (λ to_treasury c.
    next (needed_list-within (distinct_list_in-within amount_is credential_total (λ r. r.0) LIST_LIMIT) fields.Rewards d) (λ rewards r.
    given (and_from _ _ (and_from _ _ (and_from _ _ (and_from _ _ e a) b) c) r.each))))))

-- ---- a transaction

payment_in-formed : Giving payment_in (λ p. (is_tx_id p.id ≡ true) × (list_all is_made_output p.outputs ≡ true))
unfolding payment_in
payment_in-formed d =
    next (needed-within tx_id_in-formed fields.Id d) (λ id i.
    skip (needed_list fields.Inputs TX_LIST_LIMIT ref_in d) (λ inputs.
    next (needed_list-within (list_in-within output_in-formed OUTPUT_LIMIT) fields.Outputs d) (λ outputs o.
    skip (needed fields.Fee u64_in d) (λ fee. given (i, o.each)))))

terms_in-formed : Giving terms_in (λ t. none_or is_made_output t.collateral_return ≡ true)
unfolding terms_in
terms_in-formed d =
    skip (optional fields.From slot_in d) (λ from.
    skip (optional fields.Until slot_in d) (λ until.
    skip (optional_list fields.Collateral TX_LIST_LIMIT ref_in d) (λ collateral.
    next (optional-within output_in-formed fields.CollateralReturn d) (λ collateral_return r.
    skip (mint_in d) (λ mint. given r)))))

acts_in-formed : Giving acts_in (λ a. (list_all is_cert a.certs ≡ true) × (list_all is_proposed a.proposals ≡ true) × (list_all is_cast a.votes ≡ true))
unfolding acts_in
acts_in-formed d =
    next (optional_list-within (list_in-within cert_in-formed TX_LIST_LIMIT) (none_fit TX_LIST_LIMIT) fields.Certs d) (λ certs c.
    next (optional_list-within (list_in-within proposal_in-formed TX_LIST_LIMIT) (none_fit TX_LIST_LIMIT) fields.Proposals d) (λ proposals p.
    next (optional_list-within (list_in-within vote_record_in-formed TX_LIST_LIMIT) (none_fit TX_LIST_LIMIT) fields.Votes d) (λ votes v.
    given (c.each, p.each, v.each))))

tx_in-formed : Within (λ tx. is_formed_tx tx ≡ true) tx_in
unfolding tx_in
tx_in-formed d =
    next (payment_in-formed d) (λ payment p.
    skip (form_in d) (λ form.
    next (terms_in-formed d) (λ terms t.
    skip (transfers_in d) (λ transfers.
    next (acts_in-formed d) (λ acts a.
    given (and_from _ _ (and_from _ _ (and_from _ _ (and_from _ _ (and_from _ _ p.0 p.1) t) a.0) a.1) a.2))))))

-- ---- a genesis

version_is : Within (λ v. is_version v ≡ true) (both_in u32_in u32_in)
version_is = both_in-within {R = λ v. is_version v ≡ true} u32_in-within u32_in-within (λ a b u v. and_from (is_u32 a) (is_u32 b) u v)

genesis_version_in-formed : Within (λ v. is_version v ≡ true) genesis_version_in
genesis_version_in-formed d = next (version_is d) (λ v h. if_test (nat_le LEAST_MAJOR v.0) v OutOfRange (λ e. h))

times_in-formed : Giving times_in (λ t. is_version t.version ≡ true)
unfolding times_in
times_in-formed d =
    skip (needed fields.Network network_in d) (λ network.
    skip (needed fields.Slot slot_in d) (λ slot.
    skip (needed fields.EpochLength epoch_length_in d) (λ epoch_length.
    next (needed-within genesis_version_in-formed fields.Version d) (λ version v. given v))))

funds_in-formed : Giving funds_in (λ f. are_params f.params ≡ true)
unfolding funds_in
funds_in-formed d =
    skip (needed fields.Supply u64_in d) (λ supply.
    skip (needed fields.Reserves u64_in d) (λ reserves.
    skip (needed fields.Treasury u64_in d) (λ treasury.
    next (needed-within params_in-formed fields.Params d) (λ params p. given p))))

founding_in-formed : Giving founding_in
    (λ f. (is_hash 32 f.document ≡ true) × (none_or (is_hash 28) f.script ≡ true) × (none_or is_first_committee f.committee ≡ true) × (list_all is_first_output f.outputs ≡ true))
unfolding founding_in
founding_in-formed d =
    next (needed-within (hash_in-formed 32) fields.Document d) (λ document k.
    next (optional-within (hash_in-formed 28) fields.Script d) (λ script s.
    next (optional-within committee_in-formed fields.Committee d) (λ committee c.
    next (needed_list-within (list_in-within genesis_output_in-formed LIST_LIMIT) fields.Outputs d) (λ outputs o.
    given (k, s, c, o.each)))))

registered_in-formed : Giving registered_in (λ r. (list_all is_first_account r.accounts ≡ true) × (list_all is_first_pool r.pools ≡ true) × (list_all is_first_drep r.dreps ≡ true))
unfolding registered_in
registered_in-formed d =
    next (needed_list-within (list_in-within genesis_account_in-formed LIST_LIMIT) fields.Accounts d) (λ accounts a.
    next (needed_list-within (list_in-within genesis_pool_in-formed LIST_LIMIT) fields.Pools d) (λ pools p.
    next (needed_list-within (list_in-within genesis_drep_in-formed LIST_LIMIT) fields.Dreps d) (λ dreps e.
    given (a.each, p.each, e.each))))

genesis_in-formed : Within (λ g. is_formed_genesis g ≡ true) genesis_in
unfolding genesis_in
genesis_in-formed d =
    next (times_in-formed d) (λ times t.
    next (funds_in-formed d) (λ funds p.
    next (founding_in-formed d) (λ founding f.
    next (registered_in-formed d) (λ registered r.
    let founded = and_from _ _ (and_from _ _ (and_from _ _ (and_from _ _ p t) f.2) f.0) f.1 in
    given (and_from _ _ (and_from _ _ (and_from _ _ (and_from _ _ founded f.3) r.0) r.1) r.2)))))

-- ---- any record

record_of_kind-formed : (kind : List ℕ) → Within IsFormedRecord (record_of_kind kind)
unfolding block_in print_in
record_of_kind-formed kind d =
    or_else (bytes_eq kind (codes "genesis")) (next (genesis_in-formed d) (λ g e. given e))
    (or_else (bytes_eq kind (codes "block"))
    (skip (needed fields.Slot slot_in d) (λ slot. skip (needed fields.Pulse u32_in d) (λ pulse. given refl)))
    (or_else (bytes_eq kind (codes "rewards")) (next (rewards_in-formed d) (λ u e. given e))
    (or_else (bytes_eq kind (codes "tx")) (next (tx_in-formed d) (λ tx e. given e))
    (or_else (bytes_eq kind (codes "print")) (skip (needed fields.What what_in d) (λ what. given refl)) (record { holds = tt })))))

record_by-formed : (kind : Result (List ℕ) FieldFault) → Within IsFormedRecord (record_by kind)
record_by-formed (Ok kind) d = record_of_kind-formed kind d
record_by-formed (Err fault) d = record { holds = tt }

pub lines_give_formed : LinesGiveFormed
lines_give_formed line =
    let g : Gives IsFormedRecord (record_of_line line) = skip (or_fault BadJson (json_of line)) (λ d. record_by-formed (needed_in (codes "kind") text_in d) d) in g.holds

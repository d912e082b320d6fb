-- What a JSON value reads as, where it is a record. (Own)
-- Fields are read in this order, and the first one that does not read is named.
use Rattle.std.specs.Prelude.{ℕ, ℤ, true, List, [], Result, Ok, Err, bytes_eq, codes, if◌then◌else◌}
use Rattle.serde_json.specs.Data.{Data}
use Rattle.maps.specs.Maps.{with_values}
use Rattle.gov_ids.specs.declared.assets.AssetId.{AssetId}
use Rattle.gov_ids.specs.Orders.{account_cmp, asset_cmp, credential_cmp}
use Rattle.tx_records.specs.declared.field.FieldName.TheVariants as fields
use Rattle.tx_records.specs.declared.genesis.Genesis.{Genesis}
use Rattle.tx_records.specs.declared.limits.TheConstants.{LIST_LIMIT, OUTPUT_LIMIT, TX_LIST_LIMIT}
use Rattle.tx_records.specs.declared.record.Record.{Record}
use Rattle.tx_records.specs.declared.record.Record.TheVariants as records
use Rattle.tx_records.specs.declared.record.Rewards.{Rewards}
use Rattle.tx_records.specs.declared.record.What.{What}
use Rattle.tx_records.specs.declared.record.What.TheVariants.{Pots, State, Assets}
use Rattle.tx_records.specs.declared.tx.Scripts.TheVariants.{Absent}
use Rattle.tx_records.specs.declared.tx.Tx.{Tx}
use Rattle.json_fields.specs.declared.fault.FieldFault.{FieldFault}
use Rattle.json_fields.specs.declared.fault.FieldFault.TheVariants.{OutOfRange}
use Rattle.json_fields.specs.Entries.{needed_in, both_in}
use Rattle.json_fields.specs.Kinds.{text_in, bool_in, u64_in, u32_in, hash28_in, hash32_in, credential_in, account_in, ref_in, tx_id_in}
use Rattle.json_fields.specs.Steps.{◌>>=◌}
use Rattle.action_read.specs.Params.{params_in}
use Rattle.record_read.specs.declared.records.Times.{Times}
use Rattle.record_read.specs.declared.records.Funds.{Funds}
use Rattle.record_read.specs.declared.records.Founding.{Founding}
use Rattle.record_read.specs.declared.records.Registered.{Registered}
use Rattle.record_read.specs.declared.records.Payment.{Payment}
use Rattle.record_read.specs.declared.records.Form.{Form}
use Rattle.record_read.specs.declared.records.Terms.{Terms}
use Rattle.record_read.specs.declared.records.Transfers.{Transfers}
use Rattle.record_read.specs.declared.records.Acts.{Acts}
use Rattle.record_read.specs.Certs.{cert_in}
use Rattle.record_read.specs.Entries.{asset_in, moved_in, slot_in, network_in, epoch_length_in, genesis_version_in, scripts_in, committee_in, genesis_output_in, genesis_account_in, genesis_pool_in, genesis_drep_in, output_in, proposal_in, vote_record_in}
use Rattle.record_read.specs.Fields.{needed, optional, defaulted, needed_list, needed_distinct_list, optional_list, optional_distinct_list}
use Rattle.record_read.specs.LineFaults.{LineFault, UnknownKind}

-- the network, and how time is counted
unfoldable pub times_in : Data → Result Times LineFault
times_in d = do
  network ← needed fields.Network network_in d
  slot ← needed fields.Slot slot_in d
  epoch_length ← needed fields.EpochLength epoch_length_in d
  version ← needed fields.Version genesis_version_in d
  Ok (record { network = network; slot = slot; epoch_length = epoch_length; version = version })

-- the lovelace outside accounts and outputs, and the parameters
unfoldable pub funds_in : Data → Result Funds LineFault
funds_in d = do
  supply ← needed fields.Supply u64_in d
  reserves ← needed fields.Reserves u64_in d
  treasury ← needed fields.Treasury u64_in d
  params ← needed fields.Params params_in d
  Ok (record { supply = supply; reserves = reserves; treasury = treasury; params = params })

-- the constitution, the committee and the outputs
unfoldable pub founding_in : Data → Result Founding LineFault
founding_in d = do
  document ← needed fields.Document hash32_in d
  script ← optional fields.Script hash28_in d
  committee ← optional fields.Committee committee_in d
  outputs ← needed_list fields.Outputs LIST_LIMIT genesis_output_in d
  Ok (record { document = document; script = script; committee = committee; outputs = outputs })

-- those who are registered
unfoldable pub registered_in : Data → Result Registered LineFault
registered_in d = do
  accounts ← needed_list fields.Accounts LIST_LIMIT genesis_account_in d
  pools ← needed_list fields.Pools LIST_LIMIT genesis_pool_in d
  dreps ← needed_list fields.Dreps LIST_LIMIT genesis_drep_in d
  Ok (record { accounts = accounts; pools = pools; dreps = dreps })

-- the ledger at the start
unfoldable pub genesis_in : Data → Result Genesis LineFault
genesis_in d = do
  times ← times_in d
  funds ← funds_in d
  founding ← founding_in d
  registered ← registered_in d
  Ok (record {
    network = times.network;
    slot = times.slot;
    epoch_length = times.epoch_length;
    version = times.version;
    supply = funds.supply;
    reserves = funds.reserves;
    treasury = funds.treasury;
    params = funds.params;
    document = founding.document;
    script = founding.script;
    committee = founding.committee;
    outputs = founding.outputs;
    accounts = registered.accounts;
    pools = registered.pools;
    dreps = registered.dreps;
  })

-- a block
unfoldable pub block_in : Data → Result Record LineFault
block_in d = do
  slot ← needed fields.Slot slot_in d
  pulse ← needed fields.Pulse u32_in d
  Ok (records.Block slot pulse)

-- a reward update
unfoldable pub rewards_in : Data → Result Rewards LineFault
rewards_in d = do
  epoch ← needed fields.Epoch u64_in d
  from_reserves ← needed fields.FromReserves u64_in d
  from_fees ← needed fields.FromFees u64_in d
  to_treasury ← needed fields.ToTreasury u64_in d
  rewards ← needed_distinct_list fields.Rewards credential_cmp (λ r. r.0) LIST_LIMIT (both_in credential_in u64_in) d
  Ok (record { epoch = epoch; from_reserves = from_reserves; from_fees = from_fees; to_treasury = to_treasury; rewards = rewards })

-- what is spent and made
unfoldable pub payment_in : Data → Result Payment LineFault
payment_in d = do
  id ← needed fields.Id tx_id_in d
  inputs ← needed_list fields.Inputs TX_LIST_LIMIT ref_in d
  outputs ← needed_list fields.Outputs OUTPUT_LIMIT output_in d
  fee ← needed fields.Fee u64_in d
  Ok (record { id = id; inputs = inputs; outputs = outputs; fee = fee })

-- the size, the witnesses and the scripts
unfoldable pub form_in : Data → Result Form LineFault
form_in d = do
  size ← needed fields.Size u32_in d
  script_fee ← defaulted 0 fields.ScriptFee u64_in d
  witnessed ← defaulted true fields.Witnessed bool_in d
  scripts ← defaulted Absent fields.Scripts scripts_in d
  Ok (record { size = size; script_fee = script_fee; witnessed = witnessed; scripts = scripts })

-- what is minted and burned, each asset once, in order, whatever their order in the record
abbrev pub mint_in : Data → Result (List (AssetId × ℤ)) LineFault
mint_in d =
    optional_distinct_list fields.Mint asset_cmp (λ (e : AssetId × ℤ). e.0) LIST_LIMIT (asset_in moved_in) d
    >>= λ entries. Ok (with_values asset_cmp entries [])

-- its validity interval, what it loses if its scripts fail, and what it mints
unfoldable pub terms_in : Data → Result Terms LineFault
terms_in d = do
  from ← optional fields.From slot_in d
  until ← optional fields.Until slot_in d
  collateral ← optional_list fields.Collateral TX_LIST_LIMIT ref_in d
  collateral_return ← optional fields.CollateralReturn output_in d
  mint ← mint_in d
  Ok (record { from = from; until = until; collateral = collateral; collateral_return = collateral_return; mint = mint })

-- what it says of the treasury, and takes from accounts
unfoldable pub transfers_in : Data → Result Transfers LineFault
transfers_in d = do
  treasury ← optional fields.Treasury u64_in d
  donation ← defaulted 0 fields.Donation u64_in d
  withdrawals ← optional_distinct_list fields.Withdrawals account_cmp (λ x. x.0) TX_LIST_LIMIT (both_in account_in u64_in) d
  Ok (record { treasury = treasury; donation = donation; withdrawals = withdrawals })

-- what it does beside paying
unfoldable pub acts_in : Data → Result Acts LineFault
acts_in d = do
  certs ← optional_list fields.Certs TX_LIST_LIMIT cert_in d
  proposals ← optional_list fields.Proposals TX_LIST_LIMIT proposal_in d
  votes ← optional_list fields.Votes TX_LIST_LIMIT vote_record_in d
  Ok (record { certs = certs; proposals = proposals; votes = votes })

-- a transaction
unfoldable pub tx_in : Data → Result Tx LineFault
tx_in d = do
  payment ← payment_in d
  form ← form_in d
  terms ← terms_in d
  transfers ← transfers_in d
  acts ← acts_in d
  Ok (record {
    id = payment.id;
    inputs = payment.inputs;
    outputs = payment.outputs;
    fee = payment.fee;
    size = form.size;
    script_fee = form.script_fee;
    witnessed = form.witnessed;
    scripts = form.scripts;
    from = terms.from;
    until = terms.until;
    collateral = terms.collateral;
    collateral_return = terms.collateral_return;
    mint = terms.mint;
    treasury = transfers.treasury;
    donation = transfers.donation;
    withdrawals = transfers.withdrawals;
    certs = acts.certs;
    proposals = acts.proposals;
    votes = acts.votes;
  })

-- what a print asks for
abbrev pub what_of : List ℕ → Result What FieldFault
what_of word =
    if bytes_eq word (codes "pots") then Ok Pots else
    if bytes_eq word (codes "state") then Ok State else
    if bytes_eq word (codes "assets") then Ok Assets else
    Err OutOfRange

-- the word of a print
abbrev pub what_in : Data → Result What FieldFault
what_in d = text_in d >>= what_of

-- a print
unfoldable pub print_in : Data → Result Record LineFault
print_in d = do
  what ← needed fields.What what_in d
  Ok (records.Print what)

-- by the word of its kind
abbrev pub record_of_kind : List ℕ → Data → Result Record LineFault
record_of_kind kind d =
    if bytes_eq kind (codes "genesis") then (genesis_in d >>= λ g. Ok (records.Genesis g)) else
    if bytes_eq kind (codes "block") then block_in d else
    if bytes_eq kind (codes "rewards") then (rewards_in d >>= λ u. Ok (records.Rewards u)) else
    if bytes_eq kind (codes "tx") then (tx_in d >>= λ tx. Ok (records.Tx tx)) else
    if bytes_eq kind (codes "print") then print_in d else
    Err UnknownKind

-- by what its kind reads as
abbrev pub record_by : Result (List ℕ) FieldFault → Data → Result Record LineFault
record_by (Ok kind) d = record_of_kind kind d
record_by (Err fault) d = Err UnknownKind

-- a record of any kind
abbrev pub record_in : Data → Result Record LineFault
record_in d = record_by (needed_in (codes "kind") text_in d) d

-- Which records have the form of the formats: all that a ledger keeps of them is in range. (Own)
use Rattle.std.specs.Prelude.{ℕ, Bool, true, ◌&&◌, List, Option}
use Rattle.std.specs.List.{list_all}
use Rattle.maps.specs.Words.{none_or}
use Rattle.gov_ids.specs.declared.Address.{Address}
use Rattle.gov_ids.specs.declared.assets.AssetId.{AssetId}
use Rattle.gov_ids.specs.declared.Credential.{Credential}
use Rattle.gov_ids.specs.declared.Drep.{Drep}
use Rattle.gov_ids.specs.declared.OutRef.{OutRef}
use Rattle.gov_ids.specs.declared.PoolId.{PoolId}
use Rattle.tx_records.specs.declared.cert.Cert.{Cert}
use Rattle.tx_records.specs.declared.cert.Cert.TheVariants.{AccountReg, AccountUnreg, Delegate, PoolReg, PoolRetire, DrepReg, DrepUnreg, DrepUpdate, HotAuth, HotResign}
use Rattle.tx_records.specs.declared.genesis.Genesis.{Genesis}
use Rattle.tx_records.specs.declared.genesis.GenesisCommittee.{GenesisCommittee}
use Rattle.tx_records.specs.declared.genesis.GenesisPool.{GenesisPool}
use Rattle.tx_records.specs.declared.record.Record.{Record}
use Rattle.tx_records.specs.declared.record.Record.TheVariants as records
use Rattle.tx_records.specs.declared.tx.ProposalRecord.{ProposalRecord}
use Rattle.tx_records.specs.declared.tx.Tx.{Tx}
use Rattle.tx_records.specs.declared.tx.TxOutput.{TxOutput}
use Rattle.tx_records.specs.declared.tx.VoteRecord.{VoteRecord}
use Rattle.tx_records.specs.Limits.{is_slot, is_u64}
use Rattle.text_forms.specs.Actions.{is_action, is_version}
use Rattle.text_forms.specs.Books.{are_held_assets, are_rewards, are_terms}
use Rattle.text_forms.specs.Ids.{is_account_id, is_action_id, is_address, is_credential, is_drep_id, is_hash, is_pool_id, is_ref, is_tx_id, is_unit, is_voter}
use Rattle.text_forms.specs.States.{are_params}

-- ---- transactions

-- an output
abbrev pub is_made_output : TxOutput → Bool
is_made_output o = is_address o.address && is_u64 o.lovelace && are_held_assets o.assets

-- whom an account delegates to
abbrev pub are_targets : Option PoolId → Option Drep → Bool
are_targets pool drep = none_or is_pool_id pool && none_or is_drep_id drep

-- a certificate
abbrev pub is_cert : Cert → Bool
is_cert (AccountReg cred deposit pool drep) = is_credential cred && are_targets pool drep
is_cert (AccountUnreg cred refund) = is_credential cred
is_cert (Delegate cred pool drep) = is_credential cred && are_targets pool drep
is_cert (PoolReg pool cost pledge margin account key) =
    is_pool_id pool && are_terms (record { cost = cost; pledge = pledge; margin = margin; account = account; key = key })
is_cert (PoolRetire pool epoch) = is_pool_id pool && is_u64 epoch
is_cert (DrepReg cred deposit) = is_credential cred
is_cert (DrepUnreg cred refund) = is_credential cred
is_cert (DrepUpdate cred) = is_credential cred
is_cert (HotAuth cold key) = is_credential cold && is_credential key
is_cert (HotResign cold) = is_credential cold

-- a proposal
abbrev pub is_proposed : ProposalRecord → Bool
is_proposed p = is_u64 p.deposit && is_account_id p.account && is_action p.action

-- a vote
abbrev pub is_cast : VoteRecord → Bool
is_cast v = is_voter v.voter && is_action_id v.action

-- a transaction
abbrev pub is_formed_tx : Tx → Bool
is_formed_tx tx =
    is_tx_id tx.id && list_all is_made_output tx.outputs && none_or is_made_output tx.collateral_return
    && list_all is_cert tx.certs && list_all is_proposed tx.proposals && list_all is_cast tx.votes

-- ---- a genesis

-- a member: its cold key, its term, its hot key
abbrev pub is_first_member : Credential × ℕ × Option Credential → Bool
is_first_member m = is_credential m.0 && is_slot m.1 && none_or is_credential m.2

-- a committee
abbrev pub is_first_committee : GenesisCommittee → Bool
is_first_committee c = is_unit c.threshold && list_all is_first_member c.members

-- an output: its reference, its address, its lovelace, its assets
abbrev pub is_first_output : OutRef × Address × ℕ × List (AssetId × ℕ) → Bool
is_first_output o = is_ref o.0 && is_address o.1 && is_u64 o.2 && are_held_assets o.3

-- an account: its credential, its deposit, its balance, its pool, its DRep
abbrev pub is_first_account : Credential × ℕ × ℕ × Option PoolId × Option Drep → Bool
is_first_account a = is_credential a.0 && is_u64 a.1 && is_u64 a.2 && are_targets a.3 a.4

-- a pool
abbrev pub is_first_pool : GenesisPool → Bool
is_first_pool p =
    is_pool_id p.pool && is_u64 p.deposit
    && are_terms (record { cost = p.cost; pledge = p.pledge; margin = p.margin; account = p.account; key = p.key })

-- a DRep: its credential, its deposit, its expiry
abbrev pub is_first_drep : Credential × ℕ × ℕ → Bool
is_first_drep d = is_credential d.0 && is_u64 d.1 && is_slot d.2

-- what can be enacted at the start
abbrev pub is_founded : Genesis → Bool
is_founded g =
    are_params g.params && is_version g.version && none_or is_first_committee g.committee && is_hash 32 g.document
    && none_or (is_hash 28) g.script

-- a genesis
abbrev pub is_formed_genesis : Genesis → Bool
is_formed_genesis g =
    is_founded g && list_all is_first_output g.outputs && list_all is_first_account g.accounts && list_all is_first_pool g.pools
    && list_all is_first_drep g.dreps

-- ---- any record

-- a record
abbrev pub is_formed : Record → Bool
is_formed (records.Genesis g) = is_formed_genesis g
is_formed (records.Block slot pulse) = true
is_formed (records.Rewards u) = are_rewards u
is_formed (records.Tx tx) = is_formed_tx tx
is_formed (records.Print what) = true

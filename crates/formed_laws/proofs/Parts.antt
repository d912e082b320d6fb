-- What of a ledger has the form whatever the sizes of its pots.
use Rattle.std.proofs.Common.{◌≡◌, List, Bool, true, ◌&&◌}
use Rattle.std.specs.List.{AllByRecursion, list_all}
use Rattle.maps.specs.Words.{none_or}
use Rattle.gov_ids.specs.declared.Credential.{Credential}
use Rattle.gov_ids.specs.declared.PoolId.{PoolId}
use Rattle.gov_ids.specs.declared.TxId.{TxId}
use Rattle.pparams.specs.declared.Params.{Params}
use Rattle.book_records.specs.declared.DrepState.{DrepState}
use Rattle.book_records.specs.declared.Output.{Output}
use Rattle.book_records.specs.declared.pool.Pool.{Pool}
use Rattle.book_records.specs.declared.Registered.{Registered}
use Rattle.gov_actions.specs.declared.action.Proposal.{Proposal}
use Rattle.gov_actions.specs.declared.action.Vote.{Vote}
use Rattle.gov_actions.specs.declared.state.Committee.{Committee}
use Rattle.gov_actions.specs.declared.state.EnactState.{EnactState}
use Rattle.gov_actions.specs.declared.state.HotState.{HotState}
use Rattle.tx_records.specs.Limits.{is_network, is_u32, is_u64}
use Rattle.ledger_model.specs.Ledger.{Ledger}
use Rattle.dormant_laws.proofs.Lists.{left_of, right_of}
use Rattle.text_forms.specs.Actions.{is_action, is_member}
use Rattle.text_forms.specs.Books.{are_held_assets, are_terms, is_hot_state}
use Rattle.text_forms.specs.Ids.{is_account_id, is_action_id, is_address, is_credential, is_hash, is_pool_id, is_ref, is_tx_id, is_unit, is_voter}
use Rattle.text_forms.specs.States.{are_economic_params, are_governance_params, are_last_ids, are_params, is_conway_version}
use Rattle.formed_laws.specs.Records.{are_targets}
use Rattle.formed_laws.specs.Worlds.{is_conway_fork}
use Rattle.formed_laws.proofs.Each.{Each}

-- an output, but its reference
abbrev pub is_kept_output : Output → Bool
is_kept_output o = is_address o.address && is_u64 o.lovelace && are_held_assets o.assets

-- a registration, but its balance
abbrev pub is_kept_account : Registered → Bool
is_kept_account r = is_u64 r.deposit && are_targets r.pool r.drep

-- a pool
abbrev pub is_kept_pool : Pool → Bool
is_kept_pool p = is_u64 p.deposit && are_terms p.terms && none_or are_terms p.future && none_or is_u64 p.retires

-- a DRep, but its expiry
abbrev pub is_kept_drep : DrepState → Bool
is_kept_drep d = is_u64 d.deposit

-- a vote
abbrev pub is_any : Vote → Bool
is_any v = true

-- a committee, but the order of its members
abbrev pub is_seated : Committee → Bool
is_seated c = list_all is_member c.members && is_unit c.threshold

-- a proposal
pub record IsKept (p : Proposal) : Type 0 where
  pub id : is_action_id p.id ≡ true
  pub action : is_action p.action ≡ true
  pub fork : is_conway_fork p.action ≡ true
  pub deposit : is_u64 p.deposit ≡ true
  pub account : is_account_id p.account ≡ true
  pub last : is_u64 p.expires_after ≡ true
  pub votes : Each is_voter is_any p.votes

-- what can be enacted, but the treasury
pub record HasState (s : EnactState) : Type 0 where
  pub params : are_params s.params ≡ true
  pub version : is_conway_version s.version ≡ true
  pub committee : none_or is_seated s.committee ≡ true
  pub document : is_hash 32 s.document ≡ true
  pub script : none_or (is_hash 28) s.script ≡ true
  pub last : are_last_ids s.last ≡ true

-- a ledger
pub record HasParts (l : Ledger) : Type 0 where
  pub network : is_network l.network ≡ true
  pub long : is_u32 l.epoch_length ≡ true
  pub state : HasState l.state
  pub outputs : Each is_ref is_kept_output l.outputs
  pub used : AllByRecursion (λ (t : TxId). is_tx_id t ≡ true) l.used
  pub accounts : Each is_credential is_kept_account l.accounts
  pub pools : Each is_pool_id is_kept_pool l.pools
  pub dreps : Each is_credential is_kept_drep l.dreps
  pub hot : Each is_credential is_hot_state l.hot
  pub proposals : AllByRecursion IsKept l.proposals

-- ---- where one part changes

pub accounts_now : (l : Ledger) (es : List (Credential × Registered)) → HasParts l → Each is_credential is_kept_account es → HasParts (record l { accounts = es })
accounts_now l es h k = record { network = h.network; long = h.long; state = h.state; outputs = h.outputs; used = h.used; accounts = k; pools = h.pools; dreps = h.dreps; hot = h.hot; proposals = h.proposals }

pub pools_now : (l : Ledger) (es : List (PoolId × Pool)) → HasParts l → Each is_pool_id is_kept_pool es → HasParts (record l { pools = es })
pools_now l es h k = record { network = h.network; long = h.long; state = h.state; outputs = h.outputs; used = h.used; accounts = h.accounts; pools = k; dreps = h.dreps; hot = h.hot; proposals = h.proposals }

pub dreps_now : (l : Ledger) (es : List (Credential × DrepState)) → HasParts l → Each is_credential is_kept_drep es → HasParts (record l { dreps = es })
dreps_now l es h k = record { network = h.network; long = h.long; state = h.state; outputs = h.outputs; used = h.used; accounts = h.accounts; pools = h.pools; dreps = k; hot = h.hot; proposals = h.proposals }

pub hot_now : (l : Ledger) (es : List (Credential × HotState)) → HasParts l → Each is_credential is_hot_state es → HasParts (record l { hot = es })
hot_now l es h k = record { network = h.network; long = h.long; state = h.state; outputs = h.outputs; used = h.used; accounts = h.accounts; pools = h.pools; dreps = h.dreps; hot = k; proposals = h.proposals }

-- ---- parameters that are stored

-- deposits
pub record HasDeposits (p : Params) : Type 0 where
  pub key : is_u64 p.key_deposit ≡ true
  pub pool : is_u64 p.pool_deposit ≡ true
  pub drep : is_u64 p.drep_deposit ≡ true
  pub lifetime : is_u32 p.gov_action_lifetime ≡ true

pub has_deposits : (p : Params) → are_params p ≡ true → HasDeposits p
has_deposits p h =
    let governance : are_governance_params p ≡ true = right_of _ _ h in
    let economic : are_economic_params p ≡ true = right_of _ _ (left_of _ _ (left_of _ _ h)) in
    let fourth = left_of _ _ (left_of _ _ (left_of _ _ (left_of _ _ (left_of _ _ (left_of _ _ economic))))) in
    let fifth = left_of _ _ (left_of _ _ (left_of _ _ governance)) in
    record {
      key = right_of _ _ (left_of _ _ fourth);
      pool = right_of _ _ fourth;
      drep = right_of _ _ fifth;
      lifetime = right_of _ _ (left_of _ _ (left_of _ _ fifth));
    }

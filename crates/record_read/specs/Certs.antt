-- What a JSON value reads as, where it is a certificate. (Own)
use Rattle.std.specs.Prelude.{ℕ, ◌&&◌, List, Option, Result, Ok, Err, bytes_eq, codes, is_none, if◌then◌else◌}
use Rattle.serde_json.specs.Data.{Data}
use Rattle.gov_ids.specs.declared.Credential.{Credential}
use Rattle.gov_ids.specs.declared.Drep.{Drep}
use Rattle.gov_ids.specs.declared.PoolId.{PoolId}
use Rattle.tx_records.specs.declared.cert.Cert.{Cert}
use Rattle.tx_records.specs.declared.cert.Cert.TheVariants as certs
use Rattle.json_fields.specs.declared.fault.FieldFault.{FieldFault}
use Rattle.json_fields.specs.declared.fault.FieldFault.TheVariants.{OutOfRange}
use Rattle.json_fields.specs.Entries.{needed_in, maybe_in}
use Rattle.json_fields.specs.Kinds.{text_in, u64_in, hash32_in, credential_in, account_in, drep_in, pool_id_in, unit_in}
use Rattle.json_fields.specs.Steps.{◌>>=◌}

-- the credential of a certificate
abbrev pub cred_in : Data → Result Credential FieldFault
cred_in d = needed_in (codes "cred") credential_in d

-- a deposit that is stated
abbrev pub deposit_in : Data → Result (Option ℕ) FieldFault
deposit_in d = maybe_in (codes "deposit") u64_in d

-- a refund that is stated
abbrev pub refund_in : Data → Result (Option ℕ) FieldFault
refund_in d = maybe_in (codes "refund") u64_in d

-- the pool that is named
abbrev pub pool_named_in : Data → Result (Option PoolId) FieldFault
pool_named_in d = maybe_in (codes "pool") pool_id_in d

-- the DRep that is named
abbrev pub drep_named_in : Data → Result (Option Drep) FieldFault
drep_named_in d = maybe_in (codes "drep") drep_in d

-- an account is registered, and may delegate
unfoldable pub account_reg_in : Data → Result Cert FieldFault
account_reg_in d = do
  cred ← cred_in d
  deposit ← deposit_in d
  pool ← pool_named_in d
  drep ← drep_named_in d
  Ok (certs.AccountReg cred deposit pool drep)

-- an account leaves
unfoldable pub account_unreg_in : Data → Result Cert FieldFault
account_unreg_in d = do
  cred ← cred_in d
  refund ← refund_in d
  Ok (certs.AccountUnreg cred refund)

-- it names a pool, a DRep or both
abbrev pub delegation : Credential → Option PoolId → Option Drep → Result Cert FieldFault
delegation cred pool drep = if is_none pool && is_none drep then Err OutOfRange else Ok (certs.Delegate cred pool drep)

-- an account delegates
unfoldable pub delegate_in : Data → Result Cert FieldFault
delegate_in d = do
  cred ← cred_in d
  pool ← pool_named_in d
  drep ← drep_named_in d
  delegation cred pool drep

-- a pool is registered, or its future terms are set
unfoldable pub pool_reg_in : Data → Result Cert FieldFault
pool_reg_in d = do
  pool ← needed_in (codes "pool") pool_id_in d
  cost ← needed_in (codes "cost") u64_in d
  pledge ← needed_in (codes "pledge") u64_in d
  margin ← needed_in (codes "margin") unit_in d
  account ← needed_in (codes "account") account_in d
  key ← maybe_in (codes "key") hash32_in d
  Ok (certs.PoolReg pool cost pledge margin account key)

-- a pool retires
unfoldable pub pool_retire_in : Data → Result Cert FieldFault
pool_retire_in d = do
  pool ← needed_in (codes "pool") pool_id_in d
  epoch ← needed_in (codes "epoch") u64_in d
  Ok (certs.PoolRetire pool epoch)

-- a DRep is registered
unfoldable pub drep_reg_in : Data → Result Cert FieldFault
drep_reg_in d = do
  cred ← cred_in d
  deposit ← deposit_in d
  Ok (certs.DrepReg cred deposit)

-- a DRep leaves
unfoldable pub drep_unreg_in : Data → Result Cert FieldFault
drep_unreg_in d = do
  cred ← cred_in d
  refund ← refund_in d
  Ok (certs.DrepUnreg cred refund)

-- a DRep shows that it is active
unfoldable pub drep_update_in : Data → Result Cert FieldFault
drep_update_in d = do
  cred ← cred_in d
  Ok (certs.DrepUpdate cred)

-- a cold key gets a hot key
unfoldable pub hot_auth_in : Data → Result Cert FieldFault
hot_auth_in d = do
  cold ← needed_in (codes "cold") credential_in d
  hot ← needed_in (codes "hot") credential_in d
  Ok (certs.HotAuth cold hot)

-- a cold key resigns
unfoldable pub hot_resign_in : Data → Result Cert FieldFault
hot_resign_in d = do
  cold ← needed_in (codes "cold") credential_in d
  Ok (certs.HotResign cold)

-- by the name of the certificate
abbrev pub cert_of_name : List ℕ → Data → Result Cert FieldFault
cert_of_name name d =
    if bytes_eq name (codes "account-reg") then account_reg_in d else
    if bytes_eq name (codes "account-unreg") then account_unreg_in d else
    if bytes_eq name (codes "delegate") then delegate_in d else
    if bytes_eq name (codes "pool-reg") then pool_reg_in d else
    if bytes_eq name (codes "pool-retire") then pool_retire_in d else
    if bytes_eq name (codes "drep-reg") then drep_reg_in d else
    if bytes_eq name (codes "drep-unreg") then drep_unreg_in d else
    if bytes_eq name (codes "drep-update") then drep_update_in d else
    if bytes_eq name (codes "hot-auth") then hot_auth_in d else
    if bytes_eq name (codes "hot-resign") then hot_resign_in d else
    Err OutOfRange

-- a certificate
abbrev pub cert_in : Data → Result Cert FieldFault
cert_in d = needed_in (codes "cert") text_in d >>= λ name. cert_of_name name d

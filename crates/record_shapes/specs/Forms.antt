-- Why a value is not of a form: the fault of the reader of that form. (Own)
use Rattle.std.specs.Prelude.{ℕ, Option, Some, None, Result, Ok, Err, nat_le, if◌then◌else◌}
use Rattle.serde_json.specs.Data.{Data}
use Rattle.tx_records.specs.declared.limits.TheConstants.{LEAST_MAJOR}
use Rattle.json_fields.specs.declared.fault.FieldFault.{FieldFault}
use Rattle.json_fields.specs.declared.fault.FieldFault.TheVariants.{OutOfRange}
use Rattle.json_fields.specs.Kinds.{account_in, action_id_in, address_in, asset_name_in, bool_in, credential_in, drep_in, hash28_in, hash32_in, pool_id_in, ratio_in, ref_in, text_in, u16_in, u32_in, u64_in, unit_in, voter_in}
use Rattle.json_fields.specs.Steps.{◌>>=◌}
use Rattle.record_read.specs.Entries.{epoch_length_in, held_in, moved_in, network_in, nullable_in, slot_in}
use Rattle.record_shapes.specs.declared.form.Form.{Form}
use Rattle.record_shapes.specs.declared.form.Form.TheVariants as forms

-- the fault of a reading, if it has one
abbrev pub fault_of : {A : Type 0} → Result A FieldFault → Option FieldFault
fault_of (Ok x) = None
fault_of (Err fault) = Some fault

-- the major part of a protocol version of the Conway era
abbrev pub major_in : Data → Result ℕ FieldFault
major_in d = u32_in d >>= λ n. if nat_le LEAST_MAJOR n then Ok n else Err OutOfRange

-- the fault of a value that has to be of a form
abbrev pub form_fault : Form → Data → Option FieldFault
form_fault forms.Text d = fault_of (text_in d)
form_fault forms.Bool d = fault_of (bool_in d)
form_fault forms.U64 d = fault_of (u64_in d)
form_fault forms.U32 d = fault_of (u32_in d)
form_fault forms.U16 d = fault_of (u16_in d)
form_fault forms.Held d = fault_of (held_in d)
form_fault forms.Moved d = fault_of (moved_in d)
form_fault forms.EpochLength d = fault_of (epoch_length_in d)
form_fault forms.Major d = fault_of (major_in d)
form_fault forms.Network d = fault_of (network_in d)
form_fault forms.Slot d = fault_of (slot_in d)
form_fault forms.Hash28 d = fault_of (hash28_in d)
form_fault forms.Hash32 d = fault_of (hash32_in d)
form_fault forms.Credential d = fault_of (credential_in d)
form_fault forms.CredentialOrNull d = fault_of (nullable_in credential_in d)
form_fault forms.Account d = fault_of (account_in d)
form_fault forms.Address d = fault_of (address_in d)
form_fault forms.AssetName d = fault_of (asset_name_in d)
form_fault forms.Reference d = fault_of (ref_in d)
form_fault forms.ActionId d = fault_of (action_id_in d)
form_fault forms.PoolId d = fault_of (pool_id_in d)
form_fault forms.PoolIdOrNull d = fault_of (nullable_in pool_id_in d)
form_fault forms.Drep d = fault_of (drep_in d)
form_fault forms.DrepOrNull d = fault_of (nullable_in drep_in d)
form_fault forms.Voter d = fault_of (voter_in d)
form_fault forms.Unit d = fault_of (unit_in d)
form_fault forms.Ratio d = fault_of (ratio_in d)

-- What a JSON value reads as, kind by kind, or why it does not. (Own)
use Rattle.std.specs.Prelude.{ℕ, ◌^◌, Bool, ◌&&◌, List, Option, Some, None, Result, Ok, Err, is_none, nat_le, nat_lt, if◌then◌else◌}
use Rattle.std.specs.Result.{result_ok}
use Rattle.serde_json.specs.Data.{Data, null, boolean, number, string, array, object, Items, no_items, item}
use Rattle.serde_json.specs.Find.{get, as_array, as_bool, as_number, as_object, as_str, as_u64}
use Rattle.coin_frac.specs.Fraction.{Fraction, fraction}
use Rattle.gov_ids.specs.declared.Account.{Account}
use Rattle.gov_ids.specs.declared.ActionId.{ActionId}
use Rattle.gov_ids.specs.declared.Address.{Address}
use Rattle.gov_ids.specs.declared.Credential.{Credential}
use Rattle.gov_ids.specs.declared.Drep.{Drep}
use Rattle.gov_ids.specs.declared.OutRef.{OutRef}
use Rattle.gov_ids.specs.declared.PoolId.{PoolId}
use Rattle.gov_ids.specs.declared.TxId.{TxId}
use Rattle.gov_ids.specs.declared.Voter.{Voter}
use Rattle.gov_ids.specs.Spelling.{account_of, action_id_of, address_of, asset_name_of, credential_of, drep_of, hash_of, pool_of, ref_of, voter_of}
use Rattle.json_fields.specs.declared.fault.FieldFault.{FieldFault}
use Rattle.json_fields.specs.declared.fault.FieldFault.TheVariants.{Missing, WrongKind, OutOfRange}
use Rattle.json_fields.specs.Steps.{◌>>=◌, or_fault}

-- ---- fields

-- the value of a field; null counts as absent
abbrev pub present : Option Data → Result Data FieldFault
present None = Err Missing
present (Some null) = Err Missing
present (Some (boolean b)) = Ok (boolean b)
present (Some (number n)) = Ok (number n)
present (Some (string s)) = Ok (string s)
present (Some (array ds)) = Ok (array ds)
present (Some (object ms)) = Ok (object ms)

-- the value of a field of an object
abbrev pub field_in : List ℕ → Data → Result Data FieldFault
field_in name d = if is_none (as_object d) then Err WrongKind else present (get name d)

-- what is there, or nothing where it is missing
abbrev pub or_none : {A : Type 0} → Result A FieldFault → Result (Option A) FieldFault
or_none (Ok x) = Ok (Some x)
or_none (Err Missing) = Ok None
or_none (Err fault) = Err fault

-- the value of a field of an object, if it has one
abbrev pub optional_in : List ℕ → Data → Result (Option Data) FieldFault
optional_in name d = or_none (field_in name d)

-- ---- booleans and numbers

-- true or false
abbrev pub bool_in : Data → Result Bool FieldFault
bool_in d = or_fault WrongKind (as_bool d)

-- a number below a bound
abbrev pub number_below : ℕ → Data → Result ℕ FieldFault
number_below bound d =
    or_fault WrongKind (as_number d) >>= λ n. or_fault OutOfRange (as_u64 n) >>= λ k. if nat_lt k bound then Ok k else Err OutOfRange

-- a number of 64 bits
abbrev pub u64_in : Data → Result ℕ FieldFault
u64_in d = number_below (2 ^ 64) d

-- a number of 32 bits
abbrev pub u32_in : Data → Result ℕ FieldFault
u32_in d = number_below (2 ^ 32) d

-- a number of 16 bits
abbrev pub u16_in : Data → Result ℕ FieldFault
u16_in d = number_below (2 ^ 16) d

-- ---- texts

-- a text
abbrev pub text_in : Data → Result (List ℕ) FieldFault
text_in d = or_fault WrongKind (as_str d)

-- a text that read takes
abbrev pub text_by : {A : Type 0} → (List ℕ → Option A) → Data → Result A FieldFault
text_by read d = text_in d >>= λ text. or_fault OutOfRange (read text)

-- n bytes as hex digits
abbrev pub hash_in : ℕ → Data → Result (List ℕ) FieldFault
hash_in n d = text_by (λ text. result_ok (hash_of n text)) d

-- 28 bytes
abbrev pub hash28_in : Data → Result (List ℕ) FieldFault
hash28_in d = hash_in 28 d

-- 32 bytes
abbrev pub hash32_in : Data → Result (List ℕ) FieldFault
hash32_in d = hash_in 32 d

-- a transaction
abbrev pub tx_id_in : Data → Result TxId FieldFault
tx_id_in d = hash32_in d >>= λ h. Ok (record { 0 = h })

-- a pool
abbrev pub pool_id_in : Data → Result PoolId FieldFault
pool_id_in d = text_by pool_of d

-- a credential
abbrev pub credential_in : Data → Result Credential FieldFault
credential_in d = text_by credential_of d

-- an account
abbrev pub account_in : Data → Result Account FieldFault
account_in d = text_by account_of d

-- an address
abbrev pub address_in : Data → Result Address FieldFault
address_in d = text_by address_of d

-- an asset's name
abbrev pub asset_name_in : Data → Result (List ℕ) FieldFault
asset_name_in d = text_by asset_name_of d

-- a reference to an output
abbrev pub ref_in : Data → Result OutRef FieldFault
ref_in d = text_by ref_of d

-- the id of an action
abbrev pub action_id_in : Data → Result ActionId FieldFault
action_id_in d = text_by action_id_of d

-- a DRep
abbrev pub drep_in : Data → Result Drep FieldFault
drep_in d = text_by drep_of d

-- a voter
abbrev pub voter_in : Data → Result Voter FieldFault
voter_in d = text_by voter_of d

-- ---- arrays and fractions

-- the entries of an array
abbrev pub items_in : Data → Result Items FieldFault
items_in d = or_fault WrongKind (as_array d)

-- two entries
abbrev pub two_of : Items → Option (Data × Data)
two_of (item a (item b no_items)) = Some (a, b)
two_of _ = None

-- an array of two entries
abbrev pub pair_in : Data → Result (Data × Data) FieldFault
pair_in d = items_in d >>= λ ds. or_fault OutOfRange (two_of ds)

-- three entries
abbrev pub three_of : Items → Option (Data × Data × Data)
three_of (item a (item b (item c no_items))) = Some (a, b, c)
three_of _ = None

-- an array of three entries
abbrev pub three_in : Data → Result (Data × Data × Data) FieldFault
three_in d = items_in d >>= λ ds. or_fault OutOfRange (three_of ds)

-- three entries, or four: the fourth may be left out
abbrev pub three_or_four_of : Items → Option (Data × Data × Data × Option Data)
three_or_four_of (item a (item b (item c no_items))) = Some (a, b, c, None)
three_or_four_of (item a (item b (item c (item e no_items)))) = Some (a, b, c, Some e)
three_or_four_of _ = None

-- an array of three entries, or of four
abbrev pub three_or_four_in : Data → Result (Data × Data × Data × Option Data) FieldFault
three_or_four_in d = items_in d >>= λ ds. or_fault OutOfRange (three_or_four_of ds)

-- four entries
abbrev pub four_of : Items → Option (Data × Data × Data × Data)
four_of (item a (item b (item c (item e no_items)))) = Some (a, b, c, e)
four_of _ = None

-- an array of four entries
abbrev pub four_in : Data → Result (Data × Data × Data × Data) FieldFault
four_in d = items_in d >>= λ ds. or_fault OutOfRange (four_of ds)

-- five entries
abbrev pub five_of : Items → Option (Data × Data × Data × Data × Data)
five_of (item a (item b (item c (item e (item f no_items))))) = Some (a, b, c, e, f)
five_of _ = None

-- an array of five entries
abbrev pub five_in : Data → Result (Data × Data × Data × Data × Data) FieldFault
five_in d = items_in d >>= λ ds. or_fault OutOfRange (five_of ds)

-- six entries, or seven: the seventh may be left out
abbrev pub six_or_seven_of : Items → Option (Data × Data × Data × Data × Data × Data × Option Data)
six_or_seven_of (item a (item b (item c (item e (item f (item g no_items)))))) = Some (a, b, c, e, f, g, None)
six_or_seven_of (item a (item b (item c (item e (item f (item g (item h no_items))))))) = Some (a, b, c, e, f, g, Some h)
six_or_seven_of _ = None

-- an array of six entries, or of seven
abbrev pub six_or_seven_in : Data → Result (Data × Data × Data × Data × Data × Data × Option Data) FieldFault
six_or_seven_in d = items_in d >>= λ ds. or_fault OutOfRange (six_or_seven_of ds)

-- the fraction, where it may be one
abbrev pub fraction_where : Bool → ℕ → ℕ → Result Fraction FieldFault
fraction_where allowed num den = if allowed then Ok (fraction num den) else Err OutOfRange

-- a fraction from 0 to 1, as `[num,den]`
unfoldable pub unit_in : Data → Result Fraction FieldFault
unit_in d = do
  parts ← pair_in d
  num ← u64_in parts.0
  den ← u64_in parts.1
  fraction_where (nat_le 1 den && nat_le num den) num den

-- any fraction, as `[num,den]`
unfoldable pub ratio_in : Data → Result Fraction FieldFault
ratio_in d = do
  parts ← pair_in d
  num ← u64_in parts.0
  den ← u64_in parts.1
  fraction_where (nat_le 1 den) num den

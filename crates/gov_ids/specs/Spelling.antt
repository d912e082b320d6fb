-- The text of each id: what a text reads as, and what an id is printed as.
use Rattle.std.specs.Prelude.{ℕ, ◌*◌, ◌/◌, ◌&&◌, ◌==◌, nat_le, nat_lt, if◌then◌else◌, List, [], ◌∷◌, ◌++◌, length, take, drop, codes, decimal, bytes_eq, nat_eq, Option, Some, None, option_map, option_and_then, Result, Ok, Err}
use Rattle.std.specs.List.{starts_with}
use Rattle.std.specs.Result.{result_ok}
use Rattle.std.specs.Str.{all_ascii_digits}
use Rattle.std.specs.Str.Parse.{digits_value}
use Rattle.hex.specs.Hex.{decode_of, encode_lower}
use Rattle.hex.specs.declared.error.FromHexError.{FromHexError}
use Rattle.gov_ids.specs.declared.Account.{Account}
use Rattle.gov_ids.specs.declared.ActionId.{ActionId}
use Rattle.gov_ids.specs.declared.Address.{Address}
use Rattle.gov_ids.specs.declared.CredKind.{CredKind}
use Rattle.gov_ids.specs.declared.CredKind.TheVariants.{Key, Script}
use Rattle.gov_ids.specs.declared.Credential.{Credential}
use Rattle.gov_ids.specs.declared.Drep.{Drep}
use Rattle.gov_ids.specs.declared.Drep.TheVariants as drep
use Rattle.gov_ids.specs.declared.IdFault.{IdFault}
use Rattle.gov_ids.specs.declared.IdFault.TheVariants.{BadLength, BadHex}
use Rattle.gov_ids.specs.declared.OutRef.{OutRef}
use Rattle.gov_ids.specs.declared.PoolId.{PoolId}
use Rattle.gov_ids.specs.declared.Voter.{Voter}
use Rattle.gov_ids.specs.declared.Voter.TheVariants as voter

-- the next step of a reader, after a value
infixl 10 ◌>>=◌
abbrev pub ◌>>=◌ : {A B : Type 0} → Option A → (A → Option B) → Option B
o >>= f = option_and_then f o

-- ---- what a text reads as

-- the bytes, or `BadHex` if a digit is no hex digit
abbrev pub or_bad_hex : Result (List ℕ) FromHexError → Result (List ℕ) IdFault
or_bad_hex (Ok bytes) = Ok bytes
or_bad_hex (Err e) = Err BadHex

-- n bytes as 2 * n hex digits, in either case
abbrev pub hash_of : ℕ → List ℕ → Result (List ℕ) IdFault
hash_of n text = if length text == 2 * n then or_bad_hex (decode_of text) else Err BadLength

-- an asset's name: at most 32 bytes, each as two hex digits, in either case
abbrev pub asset_name_of : List ℕ → Option (List ℕ)
asset_name_of digits = if nat_le (length digits) 64 then result_ok (hash_of (length digits / 2) digits) else None

-- `k` is a key, `s` a script
abbrev pub kind_of : ℕ → Option CredKind
kind_of letter = if letter == 107 then Some Key else if letter == 115 then Some Script else None

-- `0` or `1`
abbrev pub network_of : ℕ → Option ℕ
network_of digit = if digit == 48 then Some 0 else if digit == 49 then Some 1 else None

-- decimal digits, of a number below 2 ^ 16
abbrev pub number_of : List ℕ → Option ℕ
number_of digits =
    if all_ascii_digits digits && nat_lt (digits_value 10 digits) 65536 then Some (digits_value 10 digits) else None

-- at least one digit, and no leading zero
abbrev pub index_of : List ℕ → Option ℕ
index_of [] = None
index_of (digit ∷ []) = number_of (digit ∷ [])
index_of (first ∷ second ∷ rest) = if first == 48 then None else number_of (first ∷ second ∷ rest)

-- the kind's letter, then the hash
abbrev pub credential_of : List ℕ → Option Credential
credential_of [] = None
credential_of (letter ∷ digits) = do
  kind ← kind_of letter
  hash ← result_ok (hash_of 28 digits)
  Some (record { hash = hash; kind = kind })

-- the network's digit, then the credential
abbrev pub account_of : List ℕ → Option Account
account_of [] = None
account_of (digit ∷ rest) = do
  network ← network_of digit
  cred ← credential_of rest
  Some (record { network = network; cred = cred })

-- nothing, or `+` and a credential
abbrev pub stake_of : List ℕ → Option (Option Credential)
stake_of [] = Some None
stake_of (sign ∷ rest) = if sign == 43 then option_map Some (credential_of rest) else None

-- the network's digit, the payment credential of 57 bytes, then the stake part
abbrev pub address_of : List ℕ → Option Address
address_of [] = None
address_of (digit ∷ rest) = do
  network ← network_of digit
  payment ← credential_of (take 57 rest)
  stake ← stake_of (drop 57 rest)
  Some (record { network = network; payment = payment; stake = stake })

-- `#`, then an index
abbrev pub place_of : List ℕ → Option ℕ
place_of [] = None
place_of (sign ∷ digits) = if sign == 35 then index_of digits else None

-- a transaction's 64 digits, then the place in it
abbrev pub ref_of : List ℕ → Option OutRef
ref_of text = do
  tx ← result_ok (hash_of 32 (take 64 text))
  index ← place_of (drop 64 text)
  Some (record { tx = record { 0 = tx }; index = index })

-- a transaction's 64 digits, then the place in it
abbrev pub action_id_of : List ℕ → Option ActionId
action_id_of text = do
  tx ← result_ok (hash_of 32 (take 64 text))
  index ← place_of (drop 64 text)
  Some (record { tx = record { 0 = tx }; index = index })

-- the hash
abbrev pub pool_of : List ℕ → Option PoolId
pool_of text = do
  hash ← result_ok (hash_of 28 text)
  Some (record { 0 = hash })

-- a credential, or one of the two words
abbrev pub drep_of : List ℕ → Option Drep
drep_of text =
    if bytes_eq text (codes "abstain") then Some drep.Abstain
    else if bytes_eq text (codes "no-confidence") then Some drep.NoConfidence
    else option_map drep.Registered (credential_of text)

-- the role, then the id
abbrev pub voter_of : List ℕ → Option Voter
voter_of text =
    if starts_with nat_eq text (codes "committee:") then option_map voter.Committee (credential_of (drop 10 text))
    else if starts_with nat_eq text (codes "drep:") then option_map voter.Drep (credential_of (drop 5 text))
    else if starts_with nat_eq text (codes "pool:") then option_map voter.Pool (pool_of (drop 5 text))
    else None

-- ---- what an id is printed as

-- in lower case
abbrev pub hash_text : List ℕ → List ℕ
hash_text h = encode_lower h

-- an asset's name, or `-` if it is empty
abbrev pub asset_name_text : List ℕ → List ℕ
asset_name_text [] = codes "-"
asset_name_text (byte ∷ bytes) = hash_text (byte ∷ bytes)

-- a key or a script
abbrev pub kind_text : CredKind → List ℕ
kind_text Key = codes "k"
kind_text Script = codes "s"

-- its kind, then its hash
abbrev pub credential_text : Credential → List ℕ
credential_text c = kind_text c.kind ++ hash_text c.hash

-- its network, then its credential
abbrev pub account_text : Account → List ℕ
account_text a = decimal a.network ++ credential_text a.cred

-- the stake part, if there is one
abbrev pub stake_text : Option Credential → List ℕ
stake_text None = []
stake_text (Some c) = codes "+" ++ credential_text c

-- its network, its payment credential, its stake part
abbrev pub address_text : Address → List ℕ
address_text a = decimal a.network ++ credential_text a.payment ++ stake_text a.stake

-- the transaction, then the index
abbrev pub ref_text : OutRef → List ℕ
ref_text r = hash_text r.tx.0 ++ codes "#" ++ decimal r.index

-- the transaction, then the index
abbrev pub action_id_text : ActionId → List ℕ
action_id_text a = hash_text a.tx.0 ++ codes "#" ++ decimal a.index

-- its hash
abbrev pub pool_text : PoolId → List ℕ
pool_text p = hash_text p.0

-- its credential, or the word of its option
abbrev pub drep_text : Drep → List ℕ
drep_text (drep.Registered c) = credential_text c
drep_text drep.Abstain = codes "abstain"
drep_text drep.NoConfidence = codes "no-confidence"

-- its role, then its id
abbrev pub voter_text : Voter → List ℕ
voter_text (voter.Committee c) = codes "committee:" ++ credential_text c
voter_text (voter.Drep c) = codes "drep:" ++ credential_text c
voter_text (voter.Pool p) = codes "pool:" ++ pool_text p

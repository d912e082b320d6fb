-- The texts that spell an id: its printed text, with each hex digit in either case.
use Rattle.std.specs.Prelude.{◌≡◌, ℕ, ◌+◌, ◌<◌, ◌&&◌, nat_le, if◌then◌else◌, List, ◌++◌, length, map, codes, IfSome, ⊤}
use Rattle.hex.specs.Hex.{IsBytes}
use Rattle.gov_ids.specs.declared.Account.{Account}
use Rattle.gov_ids.specs.declared.ActionId.{ActionId}
use Rattle.gov_ids.specs.declared.Address.{Address}
use Rattle.gov_ids.specs.declared.Credential.{Credential}
use Rattle.gov_ids.specs.declared.Drep.{Drep}
use Rattle.gov_ids.specs.declared.Drep.TheVariants as drep
use Rattle.gov_ids.specs.declared.OutRef.{OutRef}
use Rattle.gov_ids.specs.declared.PoolId.{PoolId}
use Rattle.gov_ids.specs.declared.Voter.{Voter}
use Rattle.gov_ids.specs.declared.Voter.TheVariants as voter
use Rattle.gov_ids.specs.Spelling.{hash_text, credential_text, account_text, address_text, ref_text, action_id_text, pool_text}

-- ---- the values of each type

-- n bytes
abbrev pub IsHash : ℕ → List ℕ → Type 0
IsHash n h = (length h ≡ n) × IsBytes h

-- a hash of 28 bytes
abbrev pub IsCredential : Credential → Type 0
IsCredential c = IsHash 28 c.hash

-- a network and a credential
abbrev pub IsAccount : Account → Type 0
IsAccount a = (a.network < 2) × IsCredential a.cred

-- a network, a credential, and another credential if it has one
abbrev pub IsAddress : Address → Type 0
IsAddress a = (a.network < 2) × IsCredential a.payment × IfSome a.stake IsCredential

-- a hash of 32 bytes and an index of 16 bits
abbrev pub IsOutRef : OutRef → Type 0
IsOutRef r = IsHash 32 r.tx.0 × (r.index < 65536)

-- a hash of 32 bytes and an index of 16 bits
abbrev pub IsActionId : ActionId → Type 0
IsActionId a = IsHash 32 a.tx.0 × (a.index < 65536)

-- a hash of 28 bytes
abbrev pub IsPoolId : PoolId → Type 0
IsPoolId p = IsHash 28 p.0

-- a credential, if it is a registered DRep
abbrev pub IsDrep : Drep → Type 0
IsDrep (drep.Registered c) = IsCredential c
IsDrep drep.Abstain = ⊤
IsDrep drep.NoConfidence = ⊤

-- a credential or a pool
abbrev pub IsVoter : Voter → Type 0
IsVoter (voter.Committee c) = IsCredential c
IsVoter (voter.Drep c) = IsCredential c
IsVoter (voter.Pool p) = IsPoolId p

-- ---- the texts that spell each

-- `A` to `F` in lower case
abbrev pub digit_lowered : ℕ → ℕ
digit_lowered c = if nat_le 65 c && nat_le c 70 then c + 32 else c

-- each hex digit in lower case
abbrev pub lowered : List ℕ → List ℕ
lowered text = map digit_lowered text

-- the text spells a hash of n bytes
abbrev pub SpellsHash : ℕ → List ℕ → List ℕ → Type 0
SpellsHash n text h = IsHash n h × (lowered text ≡ hash_text h)

-- the text spells a credential
abbrev pub SpellsCredential : List ℕ → Credential → Type 0
SpellsCredential text c = IsCredential c × (lowered text ≡ credential_text c)

-- the text spells an account
abbrev pub SpellsAccount : List ℕ → Account → Type 0
SpellsAccount text a = IsAccount a × (lowered text ≡ account_text a)

-- the text spells an address
abbrev pub SpellsAddress : List ℕ → Address → Type 0
SpellsAddress text a = IsAddress a × (lowered text ≡ address_text a)

-- the text spells an output reference
abbrev pub SpellsOutRef : List ℕ → OutRef → Type 0
SpellsOutRef text r = IsOutRef r × (lowered text ≡ ref_text r)

-- the text spells an action's id
abbrev pub SpellsActionId : List ℕ → ActionId → Type 0
SpellsActionId text a = IsActionId a × (lowered text ≡ action_id_text a)

-- the text spells a pool
abbrev pub SpellsPoolId : List ℕ → PoolId → Type 0
SpellsPoolId text p = IsPoolId p × (lowered text ≡ pool_text p)

-- the text spells a delegate; the two words only in lower case
abbrev pub SpellsDrep : List ℕ → Drep → Type 0
SpellsDrep text (drep.Registered c) = SpellsCredential text c
SpellsDrep text drep.Abstain = text ≡ codes "abstain"
SpellsDrep text drep.NoConfidence = text ≡ codes "no-confidence"

-- the text spells a voter; the role only in lower case
abbrev pub SpellsVoter : List ℕ → Voter → Type 0
SpellsVoter text (voter.Committee c) = (id : List ℕ) × (text ≡ codes "committee:" ++ id) × SpellsCredential id c
SpellsVoter text (voter.Drep c) = (id : List ℕ) × (text ≡ codes "drep:" ++ id) × SpellsCredential id c
SpellsVoter text (voter.Pool p) = (id : List ℕ) × (text ≡ codes "pool:" ++ id) × SpellsPoolId id p

-- The words of ids, fractions and versions have no line feeds.
use Rattle.std.proofs.Common.{ℕ, List, [], ◌∷◌, ◌++◌, Option, Some, None, codes, decimal, refl}
use Rattle.gov_ids.specs.declared.Account.{Account}
use Rattle.gov_ids.specs.declared.ActionId.{ActionId}
use Rattle.gov_ids.specs.declared.Address.{Address}
use Rattle.gov_ids.specs.declared.CredKind.{CredKind}
use Rattle.gov_ids.specs.declared.CredKind.TheVariants.{Key, Script}
use Rattle.gov_ids.specs.declared.Credential.{Credential}
use Rattle.gov_ids.specs.declared.Drep.{Drep}
use Rattle.gov_ids.specs.declared.Drep.TheVariants as drep
use Rattle.gov_ids.specs.declared.OutRef.{OutRef}
use Rattle.gov_ids.specs.declared.PoolId.{PoolId}
use Rattle.gov_ids.specs.declared.Voter.{Voter}
use Rattle.gov_ids.specs.declared.Voter.TheVariants as voter
use Rattle.gov_ids.specs.Spelling.{account_text, action_id_text, address_text, asset_name_text, credential_text, drep_text, hash_text, kind_text, pool_text, ref_text, stake_text, voter_text}
use Rattle.text_forms.specs.of_text_model.of_run_model.of_coin_frac.Fraction.{Fraction}
use Rattle.text_forms.specs.of_text_model.Words.{share_text, version_text}
use Rattle.checkpoint_text_laws.proofs.Free.{IsFree, both, dec, hash}

letter : (k : CredKind) → IsFree (kind_text k)
letter Key = refl
letter Script = refl

pub cred : (c : Credential) → IsFree (credential_text c)
cred c = both (kind_text c.kind) (hash_text c.hash) (letter c.kind) (hash c.hash)

pub account : (a : Account) → IsFree (account_text a)
account a = both (decimal a.network) (credential_text a.cred) (dec a.network) (cred a.cred)

stake : (o : Option Credential) → IsFree (stake_text o)
stake None = refl
stake (Some c) = cred c

pub address : (a : Address) → IsFree (address_text a)
address a =
    both (decimal a.network ++ credential_text a.payment) (stake_text a.stake)
    (both (decimal a.network) (credential_text a.payment) (dec a.network) (cred a.payment))
    (stake a.stake)

-- a number behind a hash
placed : (h : List ℕ) (n : ℕ) → IsFree (hash_text h ++ codes "#" ++ decimal n)
placed h n = both (hash_text h ++ codes "#") (decimal n) (both (hash_text h) (codes "#") (hash h) refl) (dec n)

pub ref : (r : OutRef) → IsFree (ref_text r)
ref r = placed r.tx.0 r.index

pub action_id : (a : ActionId) → IsFree (action_id_text a)
action_id a = placed a.tx.0 a.index

pub pool : (p : PoolId) → IsFree (pool_text p)
pool p = hash p.0

pub asset_name : (name : List ℕ) → IsFree (asset_name_text name)
asset_name [] = refl
asset_name (byte ∷ bytes) = hash (byte ∷ bytes)

pub drep_word : (d : Drep) → IsFree (drep_text d)
drep_word (drep.Registered c) = cred c
drep_word drep.Abstain = refl
drep_word drep.NoConfidence = refl

pub voter_word : (v : Voter) → IsFree (voter_text v)
voter_word (voter.Committee c) = cred c
voter_word (voter.Drep c) = cred c
voter_word (voter.Pool p) = pool p

pub share : (s : Fraction) → IsFree (share_text s)
share s = both (decimal s.num ++ codes "/") (decimal s.den) (both (decimal s.num) (codes "/") (dec s.num) refl) (dec s.den)

pub version : (v : ℕ × ℕ) → IsFree (version_text v)
version v = both (decimal v.0 ++ codes ".") (decimal v.1) (both (decimal v.0) (codes ".") (dec v.0) refl) (dec v.1)

-- What each kind of id and number gives has the form of the formats.
use Rattle.std.proofs.Common.{◌≡◌, ℕ, suc, ◌/◌, ◌^◌, ◌==◌, ◌<◌, ◌≤◌, List, [], ◌∷◌, Bool, true, false, ◌&&◌, cond, IfSome, Option, Some, None, Result, Ok, Err, length, nat_le, nat_lt, refl, arith}
use Rattle.std.specs.List.{list_all}
use Rattle.std.specs.Result.{result_ok}
use Rattle.std.proofs.lemmas.Bool.{and_from, eq-eqb, le-leb, leb-true, lt-ltb}
use Rattle.std.proofs.lemmas.Option.{none-some}
use Rattle.hex.specs.Hex.{IsBytes}
use Rattle.coin_frac.specs.Fraction.{fraction}
use Rattle.maps.specs.Words.{none_or}
use Rattle.gov_ids.specs.declared.Account.{Account}
use Rattle.gov_ids.specs.declared.ActionId.{ActionId}
use Rattle.gov_ids.specs.declared.Address.{Address}
use Rattle.gov_ids.specs.declared.Credential.{Credential}
use Rattle.gov_ids.specs.declared.Drep.{Drep}
use Rattle.gov_ids.specs.declared.Drep.TheVariants as drep
use Rattle.gov_ids.specs.declared.OutRef.{OutRef}
use Rattle.gov_ids.specs.declared.PoolId.{PoolId}
use Rattle.gov_ids.specs.declared.Voter.{Voter}
use Rattle.gov_ids.specs.declared.Voter.TheVariants as voter
use Rattle.gov_ids.specs.Laws.{IsCredential, IsHash, SpellsDrep, SpellsVoter}
use Rattle.gov_ids.specs.Spelling.{account_of, action_id_of, address_of, asset_name_of, credential_of, drep_of, hash_of, pool_of, ref_of, voter_of}
use Rattle.gov_ids.proofs.Spelled.{account_spelled, action_id_spelled, address_spelled, credential_spelled, drep_spelled, hash_spelled, pool_spelled, ref_spelled, voter_spelled}
use Rattle.json_fields.specs.declared.fault.FieldFault.TheVariants.{OutOfRange}
use Rattle.json_fields.specs.Kinds.{account_in, action_id_in, address_in, asset_name_in, credential_in, drep_in, hash_in, pair_in, pool_id_in, ratio_in, ref_in, text_by, text_in, tx_id_in, u16_in, unit_in, voter_in}
use Rattle.tx_records.specs.Limits.{is_network, is_share, is_u64}
use Rattle.text_forms.specs.Ids.{is_account_id, is_action_id, is_address, is_credential, is_drep_id, is_hash, is_pool_id, is_ratio, is_ref, is_tx_id, is_u16, is_unit, is_voter}
use Rattle.record_read.proofs.Gives.{Gives, Within, given, if_some, if_test, next, skip}
use Rattle.record_read.proofs.KindsGive.{number_below-within, u64_in-within}

-- what follows from the property
pub weaken : {A E : Type 0} {P Q : A → Type 0} {r : Result A E} → Gives P r → ((x : A) → P x → Q x) → Gives Q r
weaken {r = Ok x} g k = record { holds = k x g.holds }
weaken {r = Err e} g k = record { holds = tt }

-- ---- numbers

pub u16_in-formed : Within (λ n. is_u16 n ≡ true) u16_in
u16_in-formed = number_below-within (2 ^ 16)

whole_unit : (num den : ℕ) → (nat_le 1 den && nat_le num den) ≡ true → is_u64 den ≡ true → is_unit (fraction num den) ≡ true
whole_unit num den h k = and_from (is_share (fraction num den)) (is_u64 den) h k

pub unit_in-formed : Within (λ s. is_unit s ≡ true) unit_in
unfolding unit_in
unit_in-formed d =
    skip (pair_in d) (λ parts. next (u64_in-within parts.0) (λ num a. next (u64_in-within parts.1) (λ den b. if_test (nat_le 1 den && nat_le num den) (fraction num den) OutOfRange (λ e. whole_unit num den e b))))

whole_ratio : (num den : ℕ) → nat_le 1 den ≡ true → is_u64 num ≡ true → is_u64 den ≡ true → is_ratio (fraction num den) ≡ true
whole_ratio num den h a b = and_from (nat_lt 0 den && is_u64 num) (is_u64 den) (and_from (nat_lt 0 den) (is_u64 num) h a) b

pub ratio_in-formed : Within (λ s. is_ratio s ≡ true) ratio_in
unfolding ratio_in
ratio_in-formed d =
    skip (pair_in d) (λ parts. next (u64_in-within parts.0) (λ num a. next (u64_in-within parts.1) (λ den b. if_test (nat_le 1 den) (fraction num den) OutOfRange (λ e. whole_ratio num den e a b))))

-- ---- ids

text_by-formed : {A : Type 0} {P : A → Type 0} (read : List ℕ → Option A) → ((text : List ℕ) (x : A) → read text ≡ Some x → P x) → Within P (text_by read)
text_by-formed read h d = skip (text_in d) (λ text. if_some OutOfRange (read text) (h text))

bytes_all : (h : List ℕ) → IsBytes h → list_all (λ b. nat_lt b 256) h ≡ true
bytes_all [] k = refl
bytes_all (b ∷ h) k = and_from (nat_lt b 256) (list_all (λ x. nat_lt x 256) h) (lt-ltb b 256 (k 0)) (bytes_all h (λ i. k (suc i)))

hash_is : (n : ℕ) (h : List ℕ) → IsHash n h → is_hash n h ≡ true
hash_is n h k = and_from (length h == n) (list_all (λ b. nat_lt b 256) h) (eq-eqb (length h) n k.0) (bytes_all h k.1)

credential_is : (c : Credential) → IsCredential c → is_credential c ≡ true
credential_is c k = hash_is 28 c.hash k

network_is : (n : ℕ) → n < 2 → is_network n ≡ true
network_is n h = lt-ltb n 2 h

result_some : {E : Type 0} (r : Result (List ℕ) E) (h : List ℕ) → result_ok r ≡ Some h → r ≡ Ok h
result_some (Ok x) h e = cc
result_some (Err x) h e = absurd (none-some h e)

pub hash_in-formed : (n : ℕ) → Within (λ h. is_hash n h ≡ true) (hash_in n)
hash_in-formed n = text_by-formed (λ text. result_ok (hash_of n text)) (λ text h e. hash_is n h ((hash_spelled n text h).0 (result_some (hash_of n text) h e)).0)

pub tx_id_in-formed : Within (λ t. is_tx_id t ≡ true) tx_id_in
tx_id_in-formed d = next (hash_in-formed 32 d) (λ h e. given e)

pub pool_id_in-formed : Within (λ p. is_pool_id p ≡ true) pool_id_in
pool_id_in-formed = text_by-formed pool_of (λ text (p : PoolId) e. hash_is 28 p.0 ((pool_spelled text p).0 e).0)

pub credential_in-formed : Within (λ c. is_credential c ≡ true) credential_in
credential_in-formed = text_by-formed credential_of (λ text c e. credential_is c ((credential_spelled text c).0 e).0)

pub account_in-formed : Within (λ a. is_account_id a ≡ true) account_in
account_in-formed = text_by-formed account_of (λ text (a : Account) e. let k = ((account_spelled text a).0 e).0 in and_from (is_network a.network) (is_credential a.cred) (network_is a.network k.0) (credential_is a.cred k.1))

stake_is : (o : Option Credential) → IfSome o IsCredential → none_or is_credential o ≡ true
stake_is None k = refl
stake_is (Some c) k = credential_is c k

address_is : (a : Address) → is_network a.network ≡ true → is_credential a.payment ≡ true → none_or is_credential a.stake ≡ true → is_address a ≡ true
address_is a x y z = and_from (is_network a.network && is_credential a.payment) (none_or is_credential a.stake) (and_from (is_network a.network) (is_credential a.payment) x y) z

pub address_in-formed : Within (λ a. is_address a ≡ true) address_in
address_in-formed = text_by-formed address_of (λ text (a : Address) e. let k = ((address_spelled text a).0 e).0 in address_is a (network_is a.network k.0) (credential_is a.payment k.1) (stake_is a.stake k.2))

pub ref_in-formed : Within (λ r. is_ref r ≡ true) ref_in
ref_in-formed = text_by-formed ref_of (λ text (r : OutRef) e. let k = ((ref_spelled text r).0 e).0 in and_from (is_tx_id r.tx) (is_u16 r.index) (hash_is 32 r.tx.0 k.0) (lt-ltb r.index 65536 k.1))

pub action_id_in-formed : Within (λ a. is_action_id a ≡ true) action_id_in
action_id_in-formed = text_by-formed action_id_of (λ text (a : ActionId) e. let k = ((action_id_spelled text a).0 e).0 in and_from (is_tx_id a.tx) (is_u16 a.index) (hash_is 32 a.tx.0 k.0) (lt-ltb a.index 65536 k.1))

drep_is : (text : List ℕ) (d : Drep) → SpellsDrep text d → is_drep_id d ≡ true
drep_is text (drep.Registered c) k = credential_is c k.0
drep_is text drep.Abstain k = refl
drep_is text drep.NoConfidence k = refl

pub drep_in-formed : Within (λ d. is_drep_id d ≡ true) drep_in
drep_in-formed = text_by-formed drep_of (λ text d e. drep_is text d ((drep_spelled text d).0 e))

voter_is : (text : List ℕ) (v : Voter) → SpellsVoter text v → is_voter v ≡ true
voter_is text (voter.Committee c) k = credential_is c k.2.0
voter_is text (voter.Drep c) k = credential_is c k.2.0
voter_is text (voter.Pool p) k = hash_is 28 p.0 k.2.0

pub voter_in-formed : Within (λ v. is_voter v ≡ true) voter_in
voter_in-formed = text_by-formed voter_of (λ text v e. voter_is text v ((voter_spelled text v).0 e))

-- an asset's name
abbrev pub is_name : List ℕ → Bool
is_name n = nat_le (length n) 32 && list_all (λ b. nat_lt b 256) n

name_by : (b : Bool) (text n : List ℕ) → nat_le (length text) 64 ≡ b → cond b (result_ok (hash_of (length text / 2) text)) None ≡ Some n → is_name n ≡ true
name_by false text n few e = absurd (none-some n e)
name_by true text n few e =
    let k : IsHash (length text / 2) n = ((hash_spelled (length text / 2) text n).0 (result_some (hash_of (length text / 2) text) n e)).0 in
    let most : length text ≤ 64 = leb-true (length text) 64 few in
    and_from (nat_le (length n) 32) (list_all (λ b. nat_lt b 256) n) (le-leb (length n) 32 (omega (arith, k.0, most))) (bytes_all n k.1)

pub asset_name_in-formed : Within (λ n. is_name n ≡ true) asset_name_in
asset_name_in-formed = text_by-formed asset_name_of (λ text n e. name_by (nat_le (length text) 64) text n refl e)

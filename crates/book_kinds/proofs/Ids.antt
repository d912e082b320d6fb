-- The words of ids.
use Rattle.std.proofs.Common.{◌≡◌, ℕ, ◌<◌, ◌^◌, ◌++◌, true, ◌&&◌, List, Option, Some, None, IfSome, codes, decimal, option_map, refl, ap, arith}
use Rattle.std.proofs.lemmas.Bool.{and_from, and_parts, lt-ltb, ltb-true}
use Rattle.std.specs.Result.{result_ok}
use Rattle.maps.specs.Words.{none_or}
use Rattle.gov_ids.specs.declared.Address.{Address}
use Rattle.gov_ids.specs.declared.CredKind.{CredKind}
use Rattle.gov_ids.specs.declared.CredKind.TheVariants.{Key, Script}
use Rattle.gov_ids.specs.declared.Credential.{Credential}
use Rattle.gov_ids.specs.declared.Drep.{Drep}
use Rattle.gov_ids.specs.declared.Drep.TheVariants as drep
use Rattle.gov_ids.specs.declared.TxId.{TxId}
use Rattle.gov_ids.specs.declared.Voter.{Voter}
use Rattle.gov_ids.specs.declared.Voter.TheVariants as voter
use Rattle.gov_ids.specs.Laws.{IsCredential, IsDrep, IsVoter}
use Rattle.gov_ids.specs.Spelling.{account_of, account_text, action_id_of, action_id_text, address_of, address_text, credential_of, credential_text, drep_of, drep_text, hash_of, hash_text, kind_text, pool_of, pool_text, ref_of, ref_text, stake_text, voter_of, voter_text}
use Rattle.gov_ids.proofs.Forms.{account_of-read, account_of-text, action_id_of-read, action_id_of-text, address_of-read, address_of-text, credential_of-read, credential_of-text, pool_of-read, pool_of-text, ref_of-read, ref_of-text}
use Rattle.gov_ids.proofs.Spelled.{drep_of-text, drep_spelled, voter_of-text, voter_spelled}
use Rattle.text_forms.specs.Ids.{is_account_id, is_action_id, is_address, is_credential, is_drep_id, is_hash, is_pool_id, is_ref, is_tx_id, is_u16, is_voter}
use Rattle.text_model.specs.Words.{Text}
use Rattle.tx_records.specs.Limits.{is_network}
use Rattle.line_kinds.specs.Cuts.{is_plain}
use Rattle.book_kinds.specs.Words.{tx_id_of}
use Rattle.book_kinds.proofs.Fields.{IsField, hash_field, hash_from, hash_plain, hash_test, map_formed, number_plain, plain_both}

-- each value that is there
each_some : {A : Type 0} {P : A → Type 0} (o : Option A) → ((x : A) → o ≡ Some x → P x) → IfSome o P
each_some None each = tt
each_some (Some x) each = each x refl

-- ---- transactions

abbrev tx_id : List ℕ → TxId
tx_id h = record { 0 = h }

pub tx_id_field : IsField is_tx_id (λ t. hash_text t.0) tx_id_of
tx_id_field = record {
  plain = λ x p. hash_plain 32 x.0 p;
  formed = λ t. map_formed (λ h. is_hash 32 h ≡ true) (λ x. is_tx_id x ≡ true) (result_ok (hash_of 32 t)) tx_id ((hash_field 32).formed t) (λ h p. p);
  back = λ x p. ap (option_map tx_id) ((hash_field 32).back x.0 p);
}

-- ---- credentials

kind_plain : (k : CredKind) → is_plain (kind_text k) ≡ true
kind_plain Key = refl
kind_plain Script = refl

pub credential_plain : (c : Credential) → is_credential c ≡ true → is_plain (credential_text c) ≡ true
credential_plain c p = plain_both (kind_text c.kind) (hash_text c.hash) (kind_plain c.kind) (hash_plain 28 c.hash p)

pub credential_field : IsField is_credential credential_text credential_of
credential_field = record {
  plain = credential_plain;
  formed = λ t. each_some (credential_of t) (λ c e. hash_test 28 c.hash (credential_of-read t c e).0);
  back = λ c p. credential_of-text c (hash_from 28 c.hash p);
}

-- ---- pools

pub pool_field : IsField is_pool_id pool_text pool_of
pool_field = record {
  plain = λ p is. hash_plain 28 p.0 is;
  formed = λ t. each_some (pool_of t) (λ p e. hash_test 28 p.0 (pool_of-read t p e).0);
  back = λ p is. pool_of-text p (hash_from 28 p.0 is);
}

-- ---- places in transactions

u16_small : (n : ℕ) → is_u16 n ≡ true → n < 65536
u16_small n p = ltb-true n (2 ^ 16) p

-- a transaction and an index in it
place_plain : (h : List ℕ) (n : ℕ) → is_hash 32 h ≡ true → is_u16 n ≡ true → is_plain (hash_text h ++ codes "#" ++ decimal n) ≡ true
place_plain h n p q =
    let small = u16_small n q in
    plain_both (hash_text h ++ codes "#") (decimal n) (plain_both (hash_text h) (codes "#") (hash_plain 32 h p) refl) (number_plain n (omega (arith, small)))

pub action_id_field : IsField is_action_id action_id_text action_id_of
action_id_field = record {
  plain = λ a p. let both = and_parts (is_tx_id a.tx) (is_u16 a.index) p in place_plain a.tx.0 a.index both.0 both.1;
  formed = λ t. each_some (action_id_of t) (λ a e. let is = (action_id_of-read t a e).0 in and_from (is_tx_id a.tx) (is_u16 a.index) (hash_test 32 a.tx.0 is.0) (lt-ltb a.index (2 ^ 16) is.1));
  back = λ a p. let both = and_parts (is_tx_id a.tx) (is_u16 a.index) p in action_id_of-text a (hash_from 32 a.tx.0 both.0, u16_small a.index both.1);
}

pub ref_field : IsField is_ref ref_text ref_of
ref_field = record {
  plain = λ a p. let both = and_parts (is_tx_id a.tx) (is_u16 a.index) p in place_plain a.tx.0 a.index both.0 both.1;
  formed = λ t. each_some (ref_of t) (λ a e. let is = (ref_of-read t a e).0 in and_from (is_tx_id a.tx) (is_u16 a.index) (hash_test 32 a.tx.0 is.0) (lt-ltb a.index (2 ^ 16) is.1));
  back = λ a p. let both = and_parts (is_tx_id a.tx) (is_u16 a.index) p in ref_of-text a (hash_from 32 a.tx.0 both.0, u16_small a.index both.1);
}

-- ---- accounts and addresses

network_small : (n : ℕ) → is_network n ≡ true → n < 2
network_small n p = ltb-true n 2 p

network_plain : (n : ℕ) → is_network n ≡ true → is_plain (decimal n) ≡ true
network_plain n p = let small = network_small n p in number_plain n (omega (arith, small))

pub account_field : IsField is_account_id account_text account_of
account_field = record {
  plain = λ a p.
      let both = and_parts (is_network a.network) (is_credential a.cred) p in
      plain_both (decimal a.network) (credential_text a.cred) (network_plain a.network both.0) (credential_plain a.cred both.1);
  formed = λ t. each_some (account_of t) (λ a e. let is = (account_of-read t a e).0 in and_from (is_network a.network) (is_credential a.cred) (lt-ltb a.network 2 is.0) (hash_test 28 a.cred.hash is.1));
  back = λ a p. let both = and_parts (is_network a.network) (is_credential a.cred) p in account_of-text a (network_small a.network both.0, hash_from 28 a.cred.hash both.1);
}

stake_plain : (o : Option Credential) → none_or is_credential o ≡ true → is_plain (stake_text o) ≡ true
stake_plain None p = refl
stake_plain (Some c) p = plain_both (codes "+") (credential_text c) refl (credential_plain c p)

stake_from : (o : Option Credential) → none_or is_credential o ≡ true → IfSome o (λ c. IsCredential c)
stake_from None p = tt
stake_from (Some c) p = hash_from 28 c.hash p

stake_test : (o : Option Credential) → IfSome o (λ c. IsCredential c) → none_or is_credential o ≡ true
stake_test None p = refl
stake_test (Some c) p = hash_test 28 c.hash p

address_parts : (a : Address) → is_address a ≡ true → (is_network a.network ≡ true) × (is_credential a.payment ≡ true) × (none_or is_credential a.stake ≡ true)
address_parts a p =
    let three = and_parts (is_network a.network && is_credential a.payment) (none_or is_credential a.stake) p in
    let two = and_parts (is_network a.network) (is_credential a.payment) three.0 in
    (two.0, two.1, three.1)

pub address_field : IsField is_address address_text address_of
address_field = record {
  plain = λ a p.
      let is = address_parts a p in
      plain_both (decimal a.network ++ credential_text a.payment) (stake_text a.stake)
      (plain_both (decimal a.network) (credential_text a.payment) (network_plain a.network is.0) (credential_plain a.payment is.1)) (stake_plain a.stake is.2);
  formed = λ t. each_some (address_of t) (λ a e.
      let is = (address_of-read t a e).0 in
      and_from (is_network a.network && is_credential a.payment) (none_or is_credential a.stake)
      (and_from (is_network a.network) (is_credential a.payment) (lt-ltb a.network 2 is.0) (hash_test 28 a.payment.hash is.1)) (stake_test a.stake is.2));
  back = λ a p. let is = address_parts a p in address_of-text a (network_small a.network is.0, hash_from 28 a.payment.hash is.1, stake_from a.stake is.2);
}

-- ---- DReps and voters

drep_plain : (d : Drep) → is_drep_id d ≡ true → is_plain (drep_text d) ≡ true
drep_plain (drep.Registered c) p = credential_plain c p
drep_plain drep.Abstain p = refl
drep_plain drep.NoConfidence p = refl

drep_from : (d : Drep) → is_drep_id d ≡ true → IsDrep d
drep_from (drep.Registered c) p = hash_from 28 c.hash p
drep_from drep.Abstain p = tt
drep_from drep.NoConfidence p = tt

drep_test : (t : Text) (d : Drep) → drep_of t ≡ Some d → is_drep_id d ≡ true
drep_test t (drep.Registered c) e = hash_test 28 c.hash ((drep_spelled t (drep.Registered c)).0 e).0
drep_test t drep.Abstain e = refl
drep_test t drep.NoConfidence e = refl

pub drep_field : IsField is_drep_id drep_text drep_of
drep_field = record {
  plain = drep_plain;
  formed = λ t. each_some (drep_of t) (drep_test t);
  back = λ d p. drep_of-text d (drep_from d p);
}

voter_plain : (v : Voter) → is_voter v ≡ true → is_plain (voter_text v) ≡ true
voter_plain (voter.Committee c) p = plain_both (codes "committee:") (credential_text c) refl (credential_plain c p)
voter_plain (voter.Drep c) p = plain_both (codes "drep:") (credential_text c) refl (credential_plain c p)
voter_plain (voter.Pool q) p = plain_both (codes "pool:") (pool_text q) refl (hash_plain 28 q.0 p)

voter_from : (v : Voter) → is_voter v ≡ true → IsVoter v
voter_from (voter.Committee c) p = hash_from 28 c.hash p
voter_from (voter.Drep c) p = hash_from 28 c.hash p
voter_from (voter.Pool q) p = hash_from 28 q.0 p

voter_test : (t : Text) (v : Voter) → voter_of t ≡ Some v → is_voter v ≡ true
voter_test t (voter.Committee c) e = hash_test 28 c.hash ((voter_spelled t (voter.Committee c)).0 e).2.0
voter_test t (voter.Drep c) e = hash_test 28 c.hash ((voter_spelled t (voter.Drep c)).0 e).2.0
voter_test t (voter.Pool q) e = hash_test 28 q.0 ((voter_spelled t (voter.Pool q)).0 e).2.0

pub voter_field : IsField is_voter voter_text voter_of
voter_field = record {
  plain = voter_plain;
  formed = λ t. each_some (voter_of t) (voter_test t);
  back = λ v p. voter_of-text v (voter_from v p);
}

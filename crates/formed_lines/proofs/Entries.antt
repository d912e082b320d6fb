-- What the entries of lists, certificates and the parts of a genesis give has the form of the formats.
use Rattle.std.proofs.Common.{◌≡◌, ℕ, Bool, true, false, ◌&&◌, cond, List, [], ◌∷◌, Option, Some, None, Result, Ok, Err, codes, bytes_eq, is_none, length, nat_le, nat_lt, refl}
use Rattle.std.specs.List.{list_all}
use Rattle.std.proofs.lemmas.Bool.{and_from}
use Rattle.serde_json.specs.Data.{Data, array, boolean, null, number, object, string}
use Rattle.assets.specs.Quantities.{is_held}
use Rattle.maps.specs.Maps.{with_values}
use Rattle.maps.specs.Words.{none_or}
use Rattle.maps.proofs.Kept.{IsMap-with_values}
use Rattle.gov_ids.specs.declared.Account.{Account}
use Rattle.gov_ids.specs.declared.assets.AssetId.{AssetId}
use Rattle.gov_ids.specs.declared.Credential.{Credential}
use Rattle.gov_ids.specs.declared.Drep.{Drep}
use Rattle.gov_ids.specs.declared.PoolId.{PoolId}
use Rattle.gov_ids.specs.Orders.{asset_cmp}
use Rattle.gov_ids.proofs.Totals.{asset_total}
use Rattle.coin_frac.specs.Fraction.{Fraction}
use Rattle.genesis_balance.proofs.Start.{empty_sorted}
use Rattle.dormant_laws.proofs.Lists.{left_of, right_of}
use Rattle.tx_records.specs.declared.cert.Cert.{Cert}
use Rattle.tx_records.specs.declared.cert.Cert.TheVariants as certs
use Rattle.tx_records.specs.declared.limits.TheConstants.{LIST_LIMIT}
use Rattle.tx_records.specs.Limits.{is_u64}
use Rattle.json_fields.specs.declared.fault.FieldFault.{FieldFault}
use Rattle.json_fields.specs.declared.fault.FieldFault.TheVariants.{OutOfRange}
use Rattle.json_fields.specs.Entries.{maybe_by, needed_in}
use Rattle.json_fields.specs.Kinds.{five_in, six_or_seven_in, text_in, three_in, three_or_four_in, u32_in, u64_in}
use Rattle.text_forms.specs.Books.{are_held_assets, are_terms, is_held_asset}
use Rattle.text_forms.specs.Ids.{is_account_id, is_asset_id, is_credential, is_drep_id, is_hash, is_pool_id, is_unit}
use Rattle.record_read.specs.Certs.{account_reg_in, account_unreg_in, cert_in, cert_of_name, cred_in, delegate_in, deposit_in, drep_named_in, drep_reg_in, drep_unreg_in, drep_update_in, hot_auth_in, hot_resign_in, pool_named_in, pool_reg_in, pool_retire_in, refund_in}
use Rattle.record_read.specs.Entries.{asset_in, assets_by, assets_in, committee_in, genesis_account_in, genesis_drep_in, genesis_output_in, genesis_pool_in, held_in, member_in, nullable_in, output_in, proposal_in, vote_in, vote_record_in}
use Rattle.record_read.proofs.Gives.{Gives, Within, distinct_list_in-within, given, if_test, list_in-within, maybe_in-within, needed_in-within, next, or_else, skip, without_place-within}
use Rattle.record_read.proofs.KindsGive.{slot_in-within, u64_in-within}
use Rattle.formed_laws.specs.Records.{are_targets, is_cast, is_cert, is_first_account, is_first_committee, is_first_drep, is_first_member, is_first_output, is_first_pool, is_made_output, is_proposed}
use Rattle.formed_laws.proofs.Each.{Each, each-with_values, rising_from_set}
use Rattle.formed_lines.proofs.Actions.{action_in-formed}
use Rattle.formed_lines.proofs.Ids.{account_in-formed, action_id_in-formed, address_in-formed, asset_name_in-formed, credential_in-formed, drep_in-formed, hash_in-formed, is_name, pool_id_in-formed, ref_in-formed, unit_in-formed, voter_in-formed}

-- ---- assets

held_in-formed : Within (λ n. is_held n ≡ true) held_in
held_in-formed d = skip (u64_in d) (λ n. if_test (is_held n) n OutOfRange (λ e. e))

asset_is : (policy name : List ℕ) (held : ℕ) → is_hash 28 policy ≡ true → is_name name ≡ true → is_held held ≡ true → is_held_asset (record { policy = policy; name = name }, held) ≡ true
asset_is policy name held p n h =
    let short : nat_le (length name) 32 ≡ true = left_of (nat_le (length name) 32) (list_all (λ b. nat_lt b 256) name) n in
    and_from _ _ (and_from _ _ (and_from _ _ p short) (right_of (nat_le (length name) 32) (list_all (λ b. nat_lt b 256) name) n)) h

asset_in-formed : Within (λ e. is_held_asset e ≡ true) (asset_in held_in)
unfolding asset_in
asset_in-formed d =
    skip (three_in d) (λ parts.
    next (hash_in-formed 28 parts.0) (λ policy p.
    next (asset_name_in-formed parts.1) (λ name n.
    next (held_in-formed parts.2) (λ held h. given (asset_is policy name held p n h)))))

assets_each : (es : List (AssetId × ℕ)) → list_all is_held_asset es ≡ true → Each is_asset_id is_held es
assets_each [] h = tt
assets_each (e ∷ es) h =
    let here : is_held_asset e ≡ true = left_of (is_held_asset e) (list_all is_held_asset es) h in
    ((left_of _ _ here, right_of _ _ here), assets_each es (right_of (is_held_asset e) (list_all is_held_asset es) h))

each_asset : (es : List (AssetId × ℕ)) → Each is_asset_id is_held es → list_all is_held_asset es ≡ true
each_asset [] h = refl
each_asset (e ∷ es) h = and_from (is_held_asset e) (list_all is_held_asset es) (and_from _ _ h.0.0 h.0.1) (each_asset es h.1)

assets_in-formed : Within (λ es. are_held_assets es ≡ true) assets_in
assets_in-formed d =
    next (without_place-within (distinct_list_in-within asset_in-formed asset_total (λ (e : AssetId × ℕ). e.0) LIST_LIMIT) d)
    (λ es l. given (
    and_from _ _ (rising_from_set asset_cmp _ (IsMap-with_values asset_total es [] (empty_sorted asset_cmp)))
    (each_asset (with_values asset_cmp es []) (each-with_values is_asset_id is_held asset_cmp es [] (assets_each es l.each) tt))
    ))

assets_by-formed : (o : Option Data) → Gives (λ es. are_held_assets es ≡ true) (assets_by o)
assets_by-formed None = given refl
assets_by-formed (Some d) = assets_in-formed d

-- ---- an entry that may be null

module _ {A : Type 0} {p : A → Bool} {reading : Data → Result A FieldFault} (h : Within (λ x. p x ≡ true) reading) where
  nullable_in-formed : Within (λ o. none_or p o ≡ true) (nullable_in reading)
  nullable_in-formed null = given refl
  nullable_in-formed (boolean b) = next (h (boolean b)) (λ x e. given e)
  nullable_in-formed (number n) = next (h (number n)) (λ x e. given e)
  nullable_in-formed (string s) = next (h (string s)) (λ x e. given e)
  nullable_in-formed (array ds) = next (h (array ds)) (λ x e. given e)
  nullable_in-formed (object ms) = next (h (object ms)) (λ x e. given e)

  maybe_by-formed : (o : Option Data) → Gives (λ x. none_or p x ≡ true) (maybe_by reading o)
  maybe_by-formed None = given refl
  maybe_by-formed (Some d) = next (h d) (λ x e. given e)

-- ---- a genesis

member_in-formed : Within (λ m. is_first_member m ≡ true) member_in
unfolding member_in
member_in-formed d =
    skip (three_in d) (λ parts.
    next (credential_in-formed parts.0) (λ cold c.
    next (slot_in-within parts.1) (λ term t.
    next (nullable_in-formed credential_in-formed parts.2) (λ hot h. given (and_from _ _ (and_from _ _ c t) h)))))

pub committee_in-formed : Within (λ c. is_first_committee c ≡ true) committee_in
unfolding committee_in
committee_in-formed d =
    next (needed_in-within unit_in-formed (codes "threshold") d) (λ threshold t.
    next (needed_in-within (without_place-within (list_in-within member_in-formed LIST_LIMIT)) (codes "members") d) (λ members m. given (and_from _ _ t m.each)))

pub genesis_output_in-formed : Within (λ o. is_first_output o ≡ true) genesis_output_in
unfolding genesis_output_in
genesis_output_in-formed d =
    skip (three_or_four_in d) (λ parts.
    next (ref_in-formed parts.0) (λ at r.
    next (address_in-formed parts.1) (λ address a.
    next (u64_in-within parts.2) (λ lovelace l.
    next (assets_by-formed parts.3) (λ assets h. given (and_from _ _ (and_from _ _ (and_from _ _ r a) l) h))))))

pub genesis_account_in-formed : Within (λ a. is_first_account a ≡ true) genesis_account_in
unfolding genesis_account_in
genesis_account_in-formed d =
    skip (five_in d) (λ parts.
    next (credential_in-formed parts.0) (λ cred c.
    next (u64_in-within parts.1) (λ deposit k.
    next (u64_in-within parts.2) (λ rewards r.
    next (nullable_in-formed pool_id_in-formed parts.3) (λ pool p.
    next (nullable_in-formed drep_in-formed parts.4) (λ drep t. given (and_from _ _ (and_from _ _ (and_from _ _ c k) r) (and_from _ _ p t))))))))

terms_are : (cost pledge : ℕ) (margin : Fraction) (account : Account) (key : Option (List ℕ)) → is_u64 cost ≡ true → is_u64 pledge ≡ true → is_unit margin ≡ true → is_account_id account ≡ true → none_or (is_hash 32) key ≡ true
    → are_terms (record { cost = cost; pledge = pledge; margin = margin; account = account; key = key }) ≡ true
terms_are cost pledge margin account key c p m a k = and_from _ _ (and_from _ _ (and_from _ _ (and_from _ _ c p) m) a) k

pub genesis_pool_in-formed : Within (λ p. is_first_pool p ≡ true) genesis_pool_in
unfolding genesis_pool_in
genesis_pool_in-formed d =
    skip (six_or_seven_in d) (λ parts.
    next (pool_id_in-formed parts.0) (λ pool i.
    next (u64_in-within parts.1) (λ deposit k.
    next (u64_in-within parts.2) (λ cost c.
    next (u64_in-within parts.3) (λ pledge p.
    next (unit_in-formed parts.4) (λ margin m.
    next (account_in-formed parts.5) (λ account a.
    next (maybe_by-formed (hash_in-formed 32) parts.6) (λ key h. given (and_from _ _ (and_from _ _ i k) (terms_are cost pledge margin account key c p m a h))))))))))

pub genesis_drep_in-formed : Within (λ x. is_first_drep x ≡ true) genesis_drep_in
unfolding genesis_drep_in
genesis_drep_in-formed d =
    skip (three_in d) (λ parts.
    next (credential_in-formed parts.0) (λ cred c.
    next (u64_in-within parts.1) (λ deposit k.
    next (slot_in-within parts.2) (λ expiry e. given (and_from _ _ (and_from _ _ c k) e)))))

-- ---- a transaction

pub output_in-formed : Within (λ o. is_made_output o ≡ true) output_in
unfolding output_in
output_in-formed d =
    skip (three_or_four_in d) (λ parts.
    next (address_in-formed parts.0) (λ address a.
    next (u64_in-within parts.1) (λ lovelace l.
    skip (u32_in parts.2) (λ bytes.
    next (assets_by-formed parts.3) (λ assets h. given (and_from _ _ (and_from _ _ a l) h))))))

pub proposal_in-formed : Within (λ p. is_proposed p ≡ true) proposal_in
unfolding proposal_in
proposal_in-formed d =
    next (needed_in-within u64_in-within (codes "deposit") d) (λ deposit k.
    next (needed_in-within account_in-formed (codes "return") d) (λ account a.
    next (needed_in-within action_in-formed (codes "action") d) (λ action h. given (and_from _ _ (and_from _ _ k a) h))))

pub vote_record_in-formed : Within (λ v. is_cast v ≡ true) vote_record_in
unfolding vote_record_in
vote_record_in-formed d =
    next (needed_in-within voter_in-formed (codes "voter") d) (λ voter v.
    next (needed_in-within action_id_in-formed (codes "action") d) (λ action a.
    skip (needed_in (codes "vote") vote_in d) (λ vote. given (and_from _ _ v a))))

-- ---- certificates

abbrev IsFormedCert : Cert → Type 0
IsFormedCert c = is_cert c ≡ true

cred_in-formed : Within (λ c. is_credential c ≡ true) cred_in
cred_in-formed = needed_in-within credential_in-formed (codes "cred")

pool_named_in-formed : Within (λ o. none_or is_pool_id o ≡ true) pool_named_in
pool_named_in-formed = maybe_in-within pool_id_in-formed (codes "pool")

drep_named_in-formed : Within (λ o. none_or is_drep_id o ≡ true) drep_named_in
drep_named_in-formed = maybe_in-within drep_in-formed (codes "drep")

account_reg_in-formed : Within IsFormedCert account_reg_in
unfolding account_reg_in
account_reg_in-formed d =
    next (cred_in-formed d) (λ cred c. skip (deposit_in d) (λ deposit. next (pool_named_in-formed d) (λ pool p. next (drep_named_in-formed d) (λ drep t. given (and_from _ _ c (and_from _ _ p t))))))

account_unreg_in-formed : Within IsFormedCert account_unreg_in
unfolding account_unreg_in
account_unreg_in-formed d = next (cred_in-formed d) (λ cred c. skip (refund_in d) (λ refund. given c))

delegation-formed : (b : Bool) (cred : Credential) (pool : Option PoolId) (drep : Option Drep) → is_credential cred ≡ true → are_targets pool drep ≡ true
    → Gives IsFormedCert (cond b (Err OutOfRange) (Ok (certs.Delegate cred pool drep)))
delegation-formed true cred pool drep c t = record { holds = tt }
delegation-formed false cred pool drep c t = given (and_from _ _ c t)

delegate_in-formed : Within IsFormedCert delegate_in
unfolding delegate_in
delegate_in-formed d =
    next (cred_in-formed d) (λ cred c. next (pool_named_in-formed d) (λ pool p. next (drep_named_in-formed d) (λ drep t. delegation-formed (is_none pool && is_none drep) cred pool drep c (and_from _ _ p t))))

pool_reg_in-formed : Within IsFormedCert pool_reg_in
unfolding pool_reg_in
pool_reg_in-formed d =
    next (needed_in-within pool_id_in-formed (codes "pool") d) (λ pool i.
    next (needed_in-within u64_in-within (codes "cost") d) (λ cost c.
    next (needed_in-within u64_in-within (codes "pledge") d) (λ pledge p.
    next (needed_in-within unit_in-formed (codes "margin") d) (λ margin m.
    next (needed_in-within account_in-formed (codes "account") d) (λ account a.
    next (maybe_in-within (hash_in-formed 32) (codes "key") d) (λ key h. given (and_from _ _ i (terms_are cost pledge margin account key c p m a h))))))))

pool_retire_in-formed : Within IsFormedCert pool_retire_in
unfolding pool_retire_in
pool_retire_in-formed d =
    next (needed_in-within pool_id_in-formed (codes "pool") d) (λ pool i. next (needed_in-within u64_in-within (codes "epoch") d) (λ epoch e. given (and_from _ _ i e)))

drep_reg_in-formed : Within IsFormedCert drep_reg_in
unfolding drep_reg_in
drep_reg_in-formed d = next (cred_in-formed d) (λ cred c. skip (deposit_in d) (λ deposit. given c))

drep_unreg_in-formed : Within IsFormedCert drep_unreg_in
unfolding drep_unreg_in
drep_unreg_in-formed d = next (cred_in-formed d) (λ cred c. skip (refund_in d) (λ refund. given c))

drep_update_in-formed : Within IsFormedCert drep_update_in
unfolding drep_update_in
drep_update_in-formed d = next (cred_in-formed d) (λ cred c. given c)

hot_auth_in-formed : Within IsFormedCert hot_auth_in
unfolding hot_auth_in
hot_auth_in-formed d =
    next (needed_in-within credential_in-formed (codes "cold") d) (λ cold c. next (needed_in-within credential_in-formed (codes "hot") d) (λ hot h. given (and_from _ _ c h)))

hot_resign_in-formed : Within IsFormedCert hot_resign_in
unfolding hot_resign_in
hot_resign_in-formed d = next (needed_in-within credential_in-formed (codes "cold") d) (λ cold c. given c)

cert_of_name-formed : (name : List ℕ) → Within IsFormedCert (cert_of_name name)
cert_of_name-formed name d =
    or_else (bytes_eq name (codes "account-reg")) (account_reg_in-formed d)
    (or_else (bytes_eq name (codes "account-unreg")) (account_unreg_in-formed d)
    (or_else (bytes_eq name (codes "delegate")) (delegate_in-formed d)
    (or_else (bytes_eq name (codes "pool-reg")) (pool_reg_in-formed d)
    (or_else (bytes_eq name (codes "pool-retire")) (pool_retire_in-formed d)
    (or_else (bytes_eq name (codes "drep-reg")) (drep_reg_in-formed d)
    (or_else (bytes_eq name (codes "drep-unreg")) (drep_unreg_in-formed d)
    (or_else (bytes_eq name (codes "drep-update")) (drep_update_in-formed d)
    (or_else (bytes_eq name (codes "hot-auth")) (hot_auth_in-formed d)
    (or_else (bytes_eq name (codes "hot-resign")) (hot_resign_in-formed d) (record { holds = tt }))))))))))

pub cert_in-formed : Within IsFormedCert cert_in
cert_in-formed d = skip (needed_in (codes "cert") text_in d) (λ name. cert_of_name-formed name d)

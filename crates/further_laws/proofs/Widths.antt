-- A checkpoint of a World that has the form of the formats has no line that is too long, if no action is.
use Rattle.std.proofs.Common.{◌≡◌, ℕ, suc, ◌*◌, ◌^◌, ◌<◌, ◌≤◌, List, [], ◌∷◌, ◌++◌, Bool, true, false, cond, Option, Some, None, codes, decimal, flat_map, length, length-append, map, nat_le, refl, ap, arith}
use Rattle.std.specs.BTreeMap.{is_at}
use Rattle.std.specs.List.{AllByRecursion, list_all}
use Rattle.std.specs.Option.{option_to_list}
use Rattle.std.proofs.lemmas.Bool.{and_from, eqb-true, leb-true, le-leb, ltb-true}
use Rattle.std.proofs.lemmas.Fmt.{length-decimal-le}
use Rattle.hex.proofs.HexLemmas.{length-encode_with}
use Rattle.hex.specs.Hex.{lower_digits}
use Rattle.coin_frac.specs.Fraction.{Fraction}
use Rattle.maps.specs.Maps.{value_at}
use Rattle.maps.specs.Words.{none_or}
use Rattle.gov_ids.specs.declared.Account.{Account}
use Rattle.gov_ids.specs.declared.ActionId.{ActionId}
use Rattle.gov_ids.specs.declared.Address.{Address}
use Rattle.gov_ids.specs.declared.assets.AssetId.{AssetId}
use Rattle.gov_ids.specs.declared.CredKind.{CredKind}
use Rattle.gov_ids.specs.declared.CredKind.TheVariants.{Key, Script}
use Rattle.gov_ids.specs.declared.Credential.{Credential}
use Rattle.gov_ids.specs.declared.Drep.{Drep}
use Rattle.gov_ids.specs.declared.Drep.TheVariants as drep
use Rattle.gov_ids.specs.declared.OutRef.{OutRef}
use Rattle.gov_ids.specs.declared.PoolId.{PoolId}
use Rattle.gov_ids.specs.declared.Voter.{Voter}
use Rattle.gov_ids.specs.declared.Voter.TheVariants as voter
use Rattle.gov_ids.specs.Orders.{credential_cmp}
use Rattle.gov_ids.specs.Spelling.{account_text, action_id_text, address_text, asset_name_text, credential_text, drep_text, hash_text, kind_text, pool_text, ref_text, stake_text, voter_text}
use Rattle.pparams.specs.declared.Params.{Params}
use Rattle.book_records.specs.declared.DrepState.{DrepState}
use Rattle.book_records.specs.declared.Entry.{Entry}
use Rattle.book_records.specs.declared.Output.{Output}
use Rattle.book_records.specs.declared.pool.Pool.{Pool}
use Rattle.book_records.specs.declared.pool.PoolTerms.{PoolTerms}
use Rattle.book_records.specs.declared.Registered.{Registered}
use Rattle.gov_actions.specs.declared.action.Proposal.{Proposal}
use Rattle.gov_actions.specs.declared.action.Vote.{Vote}
use Rattle.gov_actions.specs.declared.action.Vote.TheVariants.{Yes, No, Abstain}
use Rattle.gov_actions.specs.declared.action.Action.{Action}
use Rattle.gov_actions.specs.declared.action.Action.TheVariants.{NoConfidence, UpdateCommittee, NewConstitution, HardForkInitiation, ParameterChange, TreasuryWithdrawals, Info}
use Rattle.gov_actions.specs.declared.state.Committee.{Committee}
use Rattle.gov_actions.specs.declared.state.HotState.{HotState}
use Rattle.gov_actions.specs.declared.state.HotState.TheVariants.{Hot, Resigned}
use Rattle.gov_actions.specs.declared.state.LastIds.{LastIds}
use Rattle.gov_actions.specs.Kinds.{kind_of, previous_of}
use Rattle.tx_records.specs.Limits.{is_network, is_slot, is_u32, is_u64}
use Rattle.dormant_laws.proofs.Lists.{all_append, left_of, right_of}
use Rattle.text_forms.specs.Actions.{is_action, is_member, is_version, is_vote}
use Rattle.text_forms.specs.Books as books
use Rattle.text_forms.specs.Ids.{are_units, is_account_id, is_action_id, is_address, is_credential, is_drep_id, is_hash, is_pool_id, is_ratio, is_ref, is_u16, is_unit, is_voter}
use Rattle.text_forms.specs.Lines.{are_short_lines, joined}
use Rattle.text_forms.specs.States.{are_economic_params, are_governance_params, are_last_ids, are_network_params, are_params, are_technical_params, is_committee}
use Rattle.text_model.specs.ActionWords as action_words
use Rattle.text_model.specs.ParamLines.{param, param_lines, shares}
use Rattle.text_model.specs.StateLines.{account_words, asset_words, committee_words, drep_words, hot_text, hot_words, key_words, member_among, next_words, output_lines, output_words, pool_lines, pool_words, proposal_words, registration_words, retires_text, terms_words, vote_words, words_of_constitution, words_of_enacted, words_of_now}
use Rattle.text_model.specs.Words.{Text, or_none, share_text, version_text}
use Rattle.tx_records.specs.declared.limits.TheConstants.{LINE_LIMIT}

-- ---- words and lines

abbrev pub IsWord : Text → Type 0
IsWord w = length w ≤ 200

-- a line of not too many words, none of which is long
abbrev pub IsLine : List Text → Type 0
IsLine ws = AllByRecursion IsWord ws × (length ws ≤ 70)

abbrev pub AreLines : List (List Text) → Type 0
AreLines lines = AllByRecursion IsLine lines

rest_length : (ws : List Text) → AllByRecursion IsWord ws → length (flat_map (λ (w : Text). (32 ∷ []) ++ w) ws) ≤ length ws * 201
rest_length [] h = omega arith
rest_length (w ∷ ws) h = omega (arith, length-append (32 ∷ w) (flat_map (λ (x : Text). (32 ∷ []) ++ x) ws), h.0, rest_length ws h.1)

joined_length : (ws : List Text) → AllByRecursion IsWord ws → length (joined ws) ≤ length ws * 201
joined_length [] h = omega arith
joined_length (w ∷ ws) h = omega (arith, length-append w (flat_map (λ (x : Text). (32 ∷ []) ++ x) ws), h.0, rest_length ws h.1)

pub short_line : (ws : List Text) → AllByRecursion IsWord ws → length ws ≤ 71 → nat_le (length (joined ws)) LINE_LIMIT ≡ true
short_line ws h few =
    let small : length (joined ws) ≤ 16777216 = omega (arith, joined_length ws h, few) in
    le-leb (length (joined ws)) 16777216 small

pub short_lines : (lines : List (List Text)) → AreLines lines → are_short_lines lines ≡ true
short_lines [] h = refl
short_lines (ws ∷ lines) h =
    let few : length ws ≤ 71 = omega (arith, h.0.1) in
    and_from (nat_le (length (joined ws)) LINE_LIMIT) (are_short_lines lines) (short_line ws h.0.0 few) (short_lines lines h.1)

module _ {A : Type 0} (p : A → Bool) where
  pub lines_map : (f : A → List Text) → ((x : A) → p x ≡ true → IsLine (f x)) → (xs : List A) → list_all p xs ≡ true → AreLines (map f xs)
  lines_map f k [] h = tt
  lines_map f k (x ∷ xs) h = (k x (left_of (p x) (list_all p xs) h), lines_map f k xs (right_of (p x) (list_all p xs) h))

  pub lines_flat : (f : A → List (List Text)) → ((x : A) → p x ≡ true → AreLines (f x)) → (xs : List A) → list_all p xs ≡ true → AreLines (flat_map f xs)
  lines_flat f k [] h = tt
  lines_flat f k (x ∷ xs) h = all_append IsLine (f x) (flat_map f xs) (k x (left_of (p x) (list_all p xs) h)) (lines_flat f k xs (right_of (p x) (list_all p xs) h))

-- ---- numbers, hashes and ids

pub digits_few : (n : ℕ) → n < 2 ^ 64 → length (decimal n) ≤ 20
digits_few n h = let wide : n < 10 ^ 20 = omega (arith, h) in length-decimal-le 20 n (omega arith) wide h

pub dec : (n : ℕ) → n < 2 ^ 64 → IsWord (decimal n)
dec n h = omega (arith, digits_few n h)

pub u64 : (n : ℕ) → is_u64 n ≡ true → n < 2 ^ 64
u64 n h = ltb-true n (2 ^ 64) h

pub u32 : (n : ℕ) → is_u32 n ≡ true → n < 2 ^ 64
u32 n h = let small : n < 2 ^ 32 = ltb-true n (2 ^ 32) h in omega (arith, small)

pub u16 : (n : ℕ) → is_u16 n ≡ true → n < 2 ^ 64
u16 n h = let small : n < 2 ^ 16 = ltb-true n (2 ^ 16) h in omega (arith, small)

pub slot : (n : ℕ) → is_slot n ≡ true → n < 2 ^ 64
slot n h = let small : n < 2 ^ 62 = ltb-true n (2 ^ 62) h in omega (arith, small)

pub network : (n : ℕ) → is_network n ≡ true → n < 2 ^ 64
network n h = let small : n < 2 = ltb-true n 2 h in omega (arith, small)

pub hash_few : (n : ℕ) (h : List ℕ) → n ≤ 32 → is_hash n h ≡ true → length (hash_text h) ≤ 64
hash_few n h small is = let same : length h ≡ n = eqb-true (length h) n (left_of _ _ is) in omega (arith, small, same, length-encode_with lower_digits h)

pub hash_word : (n : ℕ) (h : List ℕ) → n ≤ 32 → is_hash n h ≡ true → IsWord (hash_text h)
hash_word n h small is = omega (arith, hash_few n h small is)

letter : (k : CredKind) → length (kind_text k) ≤ 1
letter Key = omega arith
letter Script = omega arith

pub cred_few : (c : Credential) → is_credential c ≡ true → length (credential_text c) ≤ 65
cred_few c h = omega (arith, length-append (kind_text c.kind) (hash_text c.hash), letter c.kind, hash_few 28 c.hash (omega arith) h)

pub cred : (c : Credential) → is_credential c ≡ true → IsWord (credential_text c)
cred c h = omega (arith, cred_few c h)

pub account : (a : Account) → is_account_id a ≡ true → IsWord (account_text a)
account a h = omega (arith, length-append (decimal a.network) (credential_text a.cred), digits_few a.network (network a.network (left_of _ _ h)), cred_few a.cred (right_of _ _ h))

stake_few : (o : Option Credential) → none_or is_credential o ≡ true → length (stake_text o) ≤ 66
stake_few None h = omega arith
stake_few (Some c) h = omega (arith, length-append (codes "+") (credential_text c), cred_few c h)

pub address : (a : Address) → is_address a ≡ true → IsWord (address_text a)
address a h =
    let front = left_of _ _ h in
    omega (
      arith,
      length-append (decimal a.network ++ credential_text a.payment) (stake_text a.stake),
      length-append (decimal a.network) (credential_text a.payment),
      length-append (decimal a.network) (credential_text a.payment ++ stake_text a.stake),
      length-append (credential_text a.payment) (stake_text a.stake),
      digits_few a.network (network a.network (left_of _ _ front)),
      cred_few a.payment (right_of _ _ front),
      stake_few a.stake (right_of _ _ h),
    )

placed : (h : List ℕ) (n : ℕ) → is_hash 32 h ≡ true → is_u16 n ≡ true → IsWord (hash_text h ++ codes "#" ++ decimal n)
placed h n is small =
    omega (
      arith,
      length-append (hash_text h ++ codes "#") (decimal n),
      length-append (hash_text h) (codes "#"),
      hash_few 32 h (omega arith) is,
      digits_few n (u16 n small),
    )

pub ref : (r : OutRef) → is_ref r ≡ true → IsWord (ref_text r)
ref r h = placed r.tx.0 r.index (left_of _ _ h) (right_of _ _ h)

pub action_id : (a : ActionId) → is_action_id a ≡ true → IsWord (action_id_text a)
action_id a h = placed a.tx.0 a.index (left_of _ _ h) (right_of _ _ h)

pub pool : (p : PoolId) → is_pool_id p ≡ true → IsWord (pool_text p)
pool p h = hash_word 28 p.0 (omega arith) h

drep_word : (d : Drep) → is_drep_id d ≡ true → IsWord (drep_text d)
drep_word (drep.Registered c) h = cred c h
drep_word drep.Abstain h = omega arith
drep_word drep.NoConfidence h = omega arith

voter_word : (v : Voter) → is_voter v ≡ true → IsWord (voter_text v)
voter_word (voter.Committee c) h = omega (arith, length-append (codes "committee:") (credential_text c), cred_few c h)
voter_word (voter.Drep c) h = omega (arith, length-append (codes "drep:") (credential_text c), cred_few c h)
voter_word (voter.Pool p) h = omega (arith, length-append (codes "pool:") (pool_text p), hash_few 28 p.0 (omega arith) h)

ratio_word : (s : Fraction) → s.num < 2 ^ 64 → s.den < 2 ^ 64 → IsWord (share_text s)
ratio_word s n d =
    omega (arith, length-append (decimal s.num ++ codes "/") (decimal s.den), length-append (decimal s.num) (codes "/"), digits_few s.num n, digits_few s.den d)

pub unit : (s : Fraction) → is_unit s ≡ true → IsWord (share_text s)
unit s h =
    let den : s.den < 2 ^ 64 = u64 s.den (right_of _ _ h) in
    let least : s.num ≤ s.den = leb-true s.num s.den (right_of _ _ (left_of _ _ h)) in
    let num : s.num < 2 ^ 64 = omega (arith, least, den) in
    ratio_word s num den

pub ratio : (s : Fraction) → is_ratio s ≡ true → IsWord (share_text s)
ratio s h = ratio_word s (u64 s.num (right_of _ _ (left_of _ _ h))) (u64 s.den (right_of _ _ h))

version : (v : ℕ × ℕ) → is_version v ≡ true → IsWord (version_text v)
version v h =
    omega (
      arith,
      length-append (decimal v.0 ++ codes ".") (decimal v.1),
      length-append (decimal v.0) (codes "."),
      digits_few v.0 (u32 v.0 (left_of _ _ h)),
      digits_few v.1 (u32 v.1 (right_of _ _ h)),
    )

optional : {A : Type 0} (p : A → Bool) (f : A → Text) (o : Option A) → ((x : A) → p x ≡ true → IsWord (f x)) → none_or p o ≡ true → IsWord (or_none f o)
optional p f None k h = omega arith
optional p f (Some x) k h = k x h

kind_word : (a : Action) → IsWord (action_words.kind_text (kind_of a))
kind_word (NoConfidence previous) = omega arith
kind_word (UpdateCommittee previous remove add threshold) = omega arith
kind_word (NewConstitution previous document script) = omega arith
kind_word (HardForkInitiation previous v) = omega arith
kind_word (ParameterChange previous update policy) = omega arith
kind_word (TreasuryWithdrawals targets policy) = omega arith
kind_word Info = omega arith

vote_word : (v : Vote) → IsWord (action_words.vote_text v)
vote_word Yes = omega arith
vote_word No = omega arith
vote_word Abstain = omega arith

-- ---- lines

pub now_line : (s e d : ℕ) (v : ℕ × ℕ) → s < 2 ^ 64 → e < 2 ^ 64 → d < 2 ^ 64 → is_version v ≡ true → IsLine (words_of_now s e v d)
now_line s e d v a b c h = ((omega arith, (omega arith, (dec s a, (omega arith, (dec e b, (omega arith, (version v h, (omega arith, (dec d c, tt))))))))), omega arith)

pub constitution_line : (d : List ℕ) (s : Option (List ℕ)) → is_hash 32 d ≡ true → none_or (is_hash 28) s ≡ true → IsLine (words_of_constitution d s)
constitution_line d s h k = ((omega arith, (hash_word 32 d (omega arith) h, (optional (is_hash 28) hash_text s (λ x e. hash_word 28 x (omega arith) e) k, tt))), omega arith)

pub committee_line : (o : Option Committee) → none_or is_committee o ≡ true → IsLine (committee_words o)
committee_line None h = ((omega arith, (omega arith, tt)), omega arith)
committee_line (Some c) h = ((omega arith, (omega arith, (unit c.threshold (right_of _ _ h), tt))), omega arith)

hot_state : (s : HotState) → books.is_hot_state s ≡ true → IsWord (hot_text (Some s))
hot_state (Hot key) h = cred key h
hot_state Resigned h = omega arith

hot_found : (k : Credential) (es : List (Credential × HotState)) → list_all books.is_hot es ≡ true → IsWord (hot_text (value_at credential_cmp es k))
hot_found k [] h = omega arith
hot_found k (e ∷ es) h =
    elim (is_at (credential_cmp k) e.0) as (λ b. IsWord (hot_text (cond b (Some e.1) (value_at credential_cmp es k)))) [
      | true ↦ hot_state e.1 (right_of _ _ (left_of (books.is_hot e) (list_all books.is_hot es) h))
      | false ↦ hot_found k es (right_of (books.is_hot e) (list_all books.is_hot es) h)
    ]

pub member_line : (hot : List (Credential × HotState)) (m : Credential × ℕ) → list_all books.is_hot hot ≡ true → is_member m ≡ true → IsLine (member_among hot m)
member_line hot m k h = ((omega arith, (cred m.0 (left_of _ _ h), (omega arith, (dec m.1 (slot m.1 (right_of _ _ h)), (omega arith, (hot_found m.0 hot k, tt)))))), omega arith)

pub hot_line : (e : Credential × HotState) → books.is_hot e ≡ true → IsLine (hot_words e)
hot_line e h = ((omega arith, (cred e.0 (left_of _ _ h), (hot_state e.1 (right_of _ _ h), tt))), omega arith)

pub enacted_line : (last : LastIds) → are_last_ids last ≡ true → IsLine (words_of_enacted last)
enacted_line last h = ((omega arith, (omega arith, (optional is_action_id action_id_text last.committee action_id (left_of _ _ (left_of _ _ (left_of _ _ h))), (omega arith, (optional is_action_id action_id_text last.constitution action_id (right_of _ _ (left_of _ _ (left_of _ _ h))), (omega arith, (optional is_action_id action_id_text last.hardfork action_id (right_of _ _ (left_of _ _ h)), (omega arith, (optional is_action_id action_id_text last.parameters action_id (right_of _ _ h), tt))))))))), omega arith)

pub drep_line : (d : Credential × DrepState) → books.is_drep d ≡ true → IsLine (drep_words d)
drep_line d h = ((omega arith, (cred d.0 (left_of _ _ (left_of _ _ h)), (omega arith, (dec d.1.deposit (u64 d.1.deposit (right_of _ _ (left_of _ _ h))), (omega arith, (dec d.1.expiry (u64 d.1.expiry (right_of _ _ h)), tt)))))), omega arith)

retires_word : (o : Option ℕ) → none_or is_u64 o ≡ true → IsWord (retires_text o)
retires_word None h = omega arith
retires_word (Some e) h = dec e (u64 e h)

-- a line that may end with a key
with_key : (ws : List Text) (key : Option (List ℕ)) → AllByRecursion IsWord ws → length ws ≤ 68 → none_or (is_hash 32) key ≡ true → IsLine (ws ++ key_words key)
with_key ws None a few h = (all_append IsWord ws [] a tt, omega (arith, length-append ws [], few))
with_key ws (Some k) a few h =
    let last : List Text = codes "key" ∷ hash_text k ∷ [] in
    (all_append IsWord ws last a (omega arith, (hash_word 32 k (omega arith) h, tt)), omega (arith, length-append ws last, few))

terms_are : (t : PoolTerms) → books.are_terms t ≡ true → AllByRecursion IsWord (terms_words t)
terms_are t h = (omega arith, (dec t.cost (u64 t.cost (left_of _ _ (left_of _ _ (left_of _ _ (left_of _ _ h))))), (omega arith, (dec t.pledge (u64 t.pledge (right_of _ _ (left_of _ _ (left_of _ _ (left_of _ _ h))))), (omega arith, (unit t.margin (right_of _ _ (left_of _ _ (left_of _ _ h))), (omega arith, (account t.account (right_of _ _ (left_of _ _ h)), tt))))))))

next_lines : (p : PoolId) (o : Option PoolTerms) → is_pool_id p ≡ true → none_or books.are_terms o ≡ true → AreLines (map (next_words p) (option_to_list o))
next_lines p None k h = tt
next_lines p (Some t) k h = (with_key (codes "next" ∷ pool_text p ∷ terms_words t) t.key (omega arith, (pool p k, terms_are t h)) (omega arith) (right_of _ _ h), tt)

pool_line : (p : PoolId) (t : Pool) → is_pool_id p ≡ true → is_u64 t.deposit ≡ true → books.are_terms t.terms ≡ true → none_or is_u64 t.retires ≡ true → IsLine (pool_words p t)
pool_line p t k d h r =
    let last : List Text = codes "retires" ∷ retires_text t.retires ∷ [] in
    with_key (codes "pool" ∷ pool_text p ∷ codes "deposit" ∷ decimal t.deposit ∷ terms_words t.terms ++ last) t.terms.key
    (omega arith, (pool p k, (omega arith, (dec t.deposit (u64 t.deposit d), all_append IsWord (terms_words t.terms) last (terms_are t.terms h) (omega arith, (retires_word t.retires r, tt))))))
    (omega arith) (right_of _ _ h)

pub pool_lines_are : (p : PoolId × Pool) → books.is_pool p ≡ true → AreLines (pool_lines p)
pool_lines_are p h =
    let id = left_of _ _ (left_of _ _ (left_of _ _ (left_of _ _ h))) in (
      pool_line p.0 p.1 id (right_of _ _ (left_of _ _ (left_of _ _ (left_of _ _ h)))) (right_of _ _ (left_of _ _ (left_of _ _ h))) (right_of _ _ h),
      next_lines p.0 p.1.future id (right_of _ _ (left_of _ _ h)),
    )

pub account_line : (c : Credential) (e : Entry) → is_credential c ≡ true → e.stake < 2 ^ 64 → none_or books.is_registration e.registered ≡ true → IsLine (account_words (c, e))
account_line c e h s k = by_registration e.registered k
  where
    by_registration : (o : Option Registered) → none_or books.is_registration o ≡ true → IsLine (codes "account" ∷ credential_text c ∷ codes "stake" ∷ decimal e.stake ∷ registration_words o)
    by_registration None k = ((omega arith, (cred c h, (omega arith, (dec e.stake s, (omega arith, tt))))), omega arith)
    by_registration (Some r) k = ((omega arith, (cred c h, (omega arith, (dec e.stake s, (omega arith, (dec r.deposit (u64 r.deposit (left_of _ _ (left_of _ _ (left_of _ _ k)))), (omega arith, (dec r.rewards (u64 r.rewards (right_of _ _ (left_of _ _ (left_of _ _ k)))), (omega arith, (optional is_pool_id pool_text r.pool pool (right_of _ _ (left_of _ _ k)), (omega arith, (optional is_drep_id drep_text r.drep drep_word (right_of _ _ k), tt)))))))))))), omega arith)

output_line : (o : OutRef × Output) → books.is_output o ≡ true → IsLine (output_words o)
output_line o h = ((omega arith, (ref o.0 (left_of _ _ (left_of _ _ (left_of _ _ h))), (address o.1.address (right_of _ _ (left_of _ _ (left_of _ _ h))), (dec o.1.lovelace (u64 o.1.lovelace (right_of _ _ (left_of _ _ h))), tt)))), omega arith)

asset_name : (n : List ℕ) → nat_le (length n) 32 ≡ true → IsWord (asset_name_text n)
asset_name [] h = omega arith
asset_name (b ∷ bs) h =
    let few : length (b ∷ bs) ≤ 32 = leb-true (length (b ∷ bs)) 32 h in
    omega (arith, few, length-encode_with lower_digits (b ∷ bs))

asset_line : (e : AssetId × ℕ) → books.is_held_asset e ≡ true → IsLine (asset_words e)
asset_line e h =
    let id = left_of _ _ h in
    let held : e.1 < 2 ^ 64 = ltb-true e.1 (2 ^ 64) (right_of _ _ (right_of _ _ h)) in
    ((omega arith, (hash_word 28 e.0.policy (omega arith) (left_of _ _ (left_of _ _ id)), (asset_name e.0.name (right_of _ _ (left_of _ _ id)), (dec e.1 held, tt)))), omega arith)

pub output_lines_are : (o : OutRef × Output) → books.is_output o ≡ true → AreLines (output_lines o)
output_lines_are o h = (output_line o h, lines_map books.is_held_asset asset_words asset_line o.1.assets (right_of _ _ (right_of _ _ h)))

pub vote_line : (p : Proposal) (v : Voter × Vote) → is_action_id p.id ≡ true → is_vote v ≡ true → IsLine (vote_words p v)
vote_line p v k h = ((omega arith, (action_id p.id k, (voter_word v.0 h, (vote_word v.1, tt)))), omega arith)

previous_word : (a : Action) → is_action a ≡ true → IsWord (or_none action_id_text (previous_of a))
previous_word (NoConfidence previous) h = optional is_action_id action_id_text previous action_id h
previous_word (UpdateCommittee previous remove add threshold) h = optional is_action_id action_id_text previous action_id (left_of _ _ (left_of _ _ (left_of _ _ h)))
previous_word (NewConstitution previous document script) h = optional is_action_id action_id_text previous action_id (left_of _ _ (left_of _ _ h))
previous_word (HardForkInitiation previous v) h = optional is_action_id action_id_text previous action_id (left_of _ _ h)
previous_word (ParameterChange previous update policy) h = optional is_action_id action_id_text previous action_id (left_of _ _ (left_of _ _ h))
previous_word (TreasuryWithdrawals targets policy) h = omega arith
previous_word Info h = omega arith

pub proposal_line : (p : Proposal) → is_action_id p.id ≡ true → is_action p.action ≡ true → is_u64 p.deposit ≡ true → is_account_id p.account ≡ true → is_u64 p.expires_after ≡ true → IsLine (proposal_words p)
proposal_line p a b c d e = ((omega arith, (action_id p.id a, (kind_word p.action, (omega arith, (dec p.deposit (u64 p.deposit c), (omega arith, (account p.account d, (omega arith, (dec p.expires_after (u64 p.expires_after e), (omega arith, (previous_word p.action b, tt))))))))))), omega arith)

share_words : (ss : List Fraction) → list_all is_unit ss ≡ true → AllByRecursion IsWord (shares ss)
share_words [] h = tt
share_words (s ∷ ss) h = (unit s (left_of (is_unit s) (list_all is_unit ss) h), share_words ss (right_of (is_unit s) (list_all is_unit ss) h))

shares_few : (ss : List Fraction) → length (shares ss) ≡ length ss
shares_few [] = refl
shares_few (s ∷ ss) = ap (λ (n : ℕ). suc n) (shares_few ss)

shares_line : (name : Text) (n : ℕ) (ss : List Fraction) → IsWord name → n ≤ 10 → are_units n ss ≡ true → IsLine (param name (shares ss))
shares_line name n ss k small h =
    let same : length ss ≡ n = eqb-true (length ss) n (left_of _ _ h) in
    ((omega arith, (k, share_words ss (right_of _ _ h))), omega (arith, shares_few ss, same, small))

pub param_lines_are : (p : Params) → are_params p ≡ true → AreLines (param_lines p)
param_lines_are p h =
    let governance : are_governance_params p ≡ true = (right_of _ _ h) in
    let technical : are_technical_params p ≡ true = (right_of _ _ (left_of _ _ h)) in
    let economic : are_economic_params p ≡ true = (right_of _ _ (left_of _ _ (left_of _ _ h))) in
    let network : are_network_params p ≡ true = (left_of _ _ (left_of _ _ (left_of _ _ h))) in (
      ((omega arith, (omega arith, (dec p.max_block_body_size (u32 p.max_block_body_size (left_of _ _ (left_of _ _ (left_of _ _ (left_of _ _ (left_of _ _ (left_of _ _ network))))))), tt))), omega arith),
      (
        ((omega arith, (omega arith, (dec p.max_tx_size (u32 p.max_tx_size (right_of _ _ (left_of _ _ (left_of _ _ (left_of _ _ (left_of _ _ (left_of _ _ network))))))), tt))), omega arith),
        (
          ((omega arith, (omega arith, (dec p.max_block_header_size (u32 p.max_block_header_size (right_of _ _ (left_of _ _ (left_of _ _ (left_of _ _ (left_of _ _ network)))))), tt))), omega arith),
          (
            ((omega arith, (omega arith, (dec p.max_value_size (u32 p.max_value_size (right_of _ _ (left_of _ _ (left_of _ _ (left_of _ _ network))))), tt))), omega arith),
            (
              ((omega arith, (omega arith, (dec p.max_tx_ex_units.0 (u64 p.max_tx_ex_units.0 (left_of _ _ (right_of _ _ (left_of _ _ (left_of _ _ network))))), (dec p.max_tx_ex_units.1 (u64 p.max_tx_ex_units.1 (right_of _ _ (right_of _ _ (left_of _ _ (left_of _ _ network))))), tt)))), omega arith),
              (
                ((omega arith, (omega arith, (dec p.max_block_ex_units.0 (u64 p.max_block_ex_units.0 (left_of _ _ (right_of _ _ (left_of _ _ network)))), (dec p.max_block_ex_units.1 (u64 p.max_block_ex_units.1 (right_of _ _ (right_of _ _ (left_of _ _ network)))), tt)))), omega arith),
                (
                  ((omega arith, (omega arith, (dec p.max_collateral_inputs (u16 p.max_collateral_inputs (right_of _ _ network)), tt))), omega arith),
                  (
                    ((omega arith, (omega arith, (dec p.min_fee_a (u64 p.min_fee_a (left_of _ _ (left_of _ _ (left_of _ _ (left_of _ _ (left_of _ _ (left_of _ _ (left_of _ _ (left_of _ _ (left_of _ _ economic)))))))))), tt))), omega arith),
                    (
                      ((omega arith, (omega arith, (dec p.min_fee_b (u64 p.min_fee_b (right_of _ _ (left_of _ _ (left_of _ _ (left_of _ _ (left_of _ _ (left_of _ _ (left_of _ _ (left_of _ _ (left_of _ _ economic)))))))))), tt))), omega arith),
                      (
                        ((omega arith, (omega arith, (dec p.key_deposit (u64 p.key_deposit (right_of _ _ (left_of _ _ (left_of _ _ (left_of _ _ (left_of _ _ (left_of _ _ (left_of _ _ (left_of _ _ economic))))))))), tt))), omega arith),
                        (
                          ((omega arith, (omega arith, (dec p.pool_deposit (u64 p.pool_deposit (right_of _ _ (left_of _ _ (left_of _ _ (left_of _ _ (left_of _ _ (left_of _ _ (left_of _ _ economic)))))))), tt))), omega arith),
                          (
                            ((omega arith, (omega arith, (unit p.rho (right_of _ _ (left_of _ _ (left_of _ _ (left_of _ _ (left_of _ _ (left_of _ _ economic)))))), tt))), omega arith),
                            (
                              ((omega arith, (omega arith, (unit p.tau (right_of _ _ (left_of _ _ (left_of _ _ (left_of _ _ (left_of _ _ economic))))), tt))), omega arith),
                              (
                                ((omega arith, (omega arith, (dec p.min_pool_cost (u64 p.min_pool_cost (right_of _ _ (left_of _ _ (left_of _ _ (left_of _ _ economic))))), tt))), omega arith),
                                (
                                  ((omega arith, (omega arith, (dec p.coins_per_utxo_byte (u64 p.coins_per_utxo_byte (right_of _ _ (left_of _ _ (left_of _ _ economic)))), tt))), omega arith),
                                  (
                                    ((omega arith, (omega arith, (ratio p.prices.0 (left_of _ _ (right_of _ _ (left_of _ _ economic))), (ratio p.prices.1 (right_of _ _ (right_of _ _ (left_of _ _ economic))), tt)))), omega arith),
                                    (
                                      ((omega arith, (omega arith, (ratio p.min_fee_ref_script_cost_per_byte (right_of _ _ economic), tt))), omega arith),
                                      (
                                        ((omega arith, (omega arith, (ratio p.a0 (left_of _ _ (left_of _ _ (left_of _ _ (left_of _ _ technical)))), tt))), omega arith),
                                        (
                                          ((omega arith, (omega arith, (dec p.e_max (u32 p.e_max (right_of _ _ (left_of _ _ (left_of _ _ (left_of _ _ technical))))), tt))), omega arith),
                                          (
                                            ((omega arith, (omega arith, (dec p.n_opt (u16 p.n_opt (right_of _ _ (left_of _ _ (left_of _ _ technical)))), tt))), omega arith),
                                            (
                                              ((omega arith, (omega arith, (hash_word 32 p.cost_models (omega arith) (right_of _ _ (left_of _ _ technical)), tt))), omega arith),
                                              (
                                                ((omega arith, (omega arith, (dec p.collateral_percentage (u16 p.collateral_percentage (right_of _ _ technical)), tt))), omega arith),
                                                (
                                                  shares_line (codes "poolVotingThresholds") 5 p.pool_voting_thresholds (omega arith) (omega arith) (left_of _ _ (left_of _ _ (left_of _ _ (left_of _ _ (left_of _ _ (left_of _ _ (left_of _ _ governance))))))),
                                                  (
                                                    shares_line (codes "drepVotingThresholds") 10 p.drep_voting_thresholds (omega arith) (omega arith) (right_of _ _ (left_of _ _ (left_of _ _ (left_of _ _ (left_of _ _ (left_of _ _ (left_of _ _ governance))))))),
                                                    (
                                                      ((omega arith, (omega arith, (dec p.gov_action_lifetime (u32 p.gov_action_lifetime (right_of _ _ (left_of _ _ (left_of _ _ (left_of _ _ (left_of _ _ (left_of _ _ governance))))))), tt))), omega arith),
                                                      (
                                                        ((omega arith, (omega arith, (dec p.gov_action_deposit (u64 p.gov_action_deposit (right_of _ _ (left_of _ _ (left_of _ _ (left_of _ _ (left_of _ _ governance)))))), tt))), omega arith),
                                                        (
                                                          ((omega arith, (omega arith, (dec p.drep_deposit (u64 p.drep_deposit (right_of _ _ (left_of _ _ (left_of _ _ (left_of _ _ governance))))), tt))), omega arith),
                                                          (
                                                            ((omega arith, (omega arith, (dec p.drep_activity (u32 p.drep_activity (right_of _ _ (left_of _ _ (left_of _ _ governance)))), tt))), omega arith),
                                                            (
                                                              ((omega arith, (omega arith, (dec p.committee_min_size (u16 p.committee_min_size (right_of _ _ (left_of _ _ governance))), tt))), omega arith),
                                                              (
                                                                ((omega arith, (omega arith, (dec p.committee_max_term_length (u32 p.committee_max_term_length (right_of _ _ governance)), tt))), omega arith),
                                                                tt,
                                                              ),
                                                            ),
                                                          ),
                                                        ),
                                                      ),
                                                    ),
                                                  ),
                                                ),
                                              ),
                                            ),
                                          ),
                                        ),
                                      ),
                                    ),
                                  ),
                                ),
                              ),
                            ),
                          ),
                        ),
                      ),
                    ),
                  ),
                ),
              ),
            ),
          ),
        ),
      ),
    )

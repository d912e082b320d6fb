-- What reads as an id is spelled as it is printed, with each hex digit in either case, and the other way round.
use Rattle.std.proofs.Common.{◌≡◌, ◌↔◌, ℕ, ◌++◌, Bool, true, false, if◌then◌else◌, List, drop, length, codes, bytes_eq, nat_eq, Some, None, Ok, option_map, refl, sym, ap, ◌∙◌, inl, inr}
use Rattle.std.proofs.lemmas.Bool.{cases_Bool}
use Rattle.std.proofs.lemmas.Bool.Decides.{Decides-eqb}
use Rattle.std.proofs.lemmas.Option.{none-some, same_Some}
use Rattle.std.proofs.lemmas.Slice.Eq.{bytes_eq-Decides, starts_is}
use Rattle.std.specs.List.{starts_with}
use Rattle.gov_ids.specs.declared.Account.{Account}
use Rattle.gov_ids.specs.declared.ActionId.{ActionId}
use Rattle.gov_ids.specs.declared.Address.{Address}
use Rattle.gov_ids.specs.declared.Credential.{Credential}
use Rattle.gov_ids.specs.declared.Drep.{Drep}
use Rattle.gov_ids.specs.declared.Drep.TheVariants as drep
use Rattle.gov_ids.specs.declared.OutRef.{OutRef}
use Rattle.gov_ids.specs.declared.PoolId.{PoolId}
use Rattle.gov_ids.specs.declared.Voter.{Voter}
use Rattle.gov_ids.specs.declared.Voter.TheVariants as voter
use Rattle.gov_ids.specs.Laws.{IsDrep, IsVoter, SpellsAccount, SpellsActionId, SpellsAddress, SpellsCredential, SpellsDrep, SpellsHash, SpellsOutRef, SpellsPoolId, SpellsVoter}
use Rattle.gov_ids.specs.Spelling.{account_of, action_id_of, address_of, credential_of, drep_of, drep_text, hash_of, pool_of, ref_of, voter_of, voter_text}
use Rattle.gov_ids.proofs.Forms.{account_of-lowered, account_of-read, account_of-text, action_id_of-lowered, action_id_of-read, action_id_of-text, address_of-lowered, address_of-read, address_of-text, credential_of-lowered, credential_of-read, credential_of-text, map_some, pool_of-lowered, pool_of-read, pool_of-text, ref_of-lowered, ref_of-read, ref_of-text}
use Rattle.gov_ids.proofs.HexCase.{hash_of-hash_text, hash_of-lowered, hash_of-read}

pub hash_spelled : (n : ℕ) (s h : List ℕ) → (hash_of n s ≡ Ok h) ↔ SpellsHash n s h
hash_spelled n s h = (hash_of-read n s h, λ w. sym (hash_of-lowered n s) ∙ ap (hash_of n) w.1 ∙ hash_of-hash_text n h w.0)

pub credential_spelled : (s : List ℕ) (c : Credential) → (credential_of s ≡ Some c) ↔ SpellsCredential s c
credential_spelled s c =
    (credential_of-read s c, λ w. sym (credential_of-lowered s) ∙ ap credential_of w.1 ∙ credential_of-text c w.0)

pub account_spelled : (s : List ℕ) (a : Account) → (account_of s ≡ Some a) ↔ SpellsAccount s a
account_spelled s a =
    (account_of-read s a, λ w. sym (account_of-lowered s) ∙ ap account_of w.1 ∙ account_of-text a w.0)

pub address_spelled : (s : List ℕ) (a : Address) → (address_of s ≡ Some a) ↔ SpellsAddress s a
address_spelled s a =
    (address_of-read s a, λ w. sym (address_of-lowered s) ∙ ap address_of w.1 ∙ address_of-text a w.0)

pub ref_spelled : (s : List ℕ) (r : OutRef) → (ref_of s ≡ Some r) ↔ SpellsOutRef s r
ref_spelled s r = (ref_of-read s r, λ w. sym (ref_of-lowered s) ∙ ap ref_of w.1 ∙ ref_of-text r w.0)

pub action_id_spelled : (s : List ℕ) (a : ActionId) → (action_id_of s ≡ Some a) ↔ SpellsActionId s a
action_id_spelled s a =
    (action_id_of-read s a, λ w. sym (action_id_of-lowered s) ∙ ap action_id_of w.1 ∙ action_id_of-text a w.0)

pub pool_spelled : (s : List ℕ) (p : PoolId) → (pool_of s ≡ Some p) ↔ SpellsPoolId s p
pool_spelled s p = (pool_of-read s p, λ w. sym (pool_of-lowered s) ∙ ap pool_of w.1 ∙ pool_of-text p w.0)

-- ---- DReps

-- a text that reads as a credential is none of the words
not_word : (w s : List ℕ) (c : Credential) → credential_of w ≡ None → credential_of s ≡ Some c → bytes_eq s w ≡ false
not_word w s c none e =
    elim (cases_Bool (bytes_eq s w)) [
      | inl same ↦ absurd (none-some c (sym none ∙ ap credential_of (sym ((bytes_eq-Decides s w).0 same)) ∙ e))
      | inr other ↦ other
    ]

drep_from : (s : List ℕ) (d : Drep) → SpellsDrep s d → drep_of s ≡ Some d
drep_from s (drep.Registered c) w =
    let e = (credential_spelled s c).1 w in
    rw (not_word (codes "abstain") s c refl e, not_word (codes "no-confidence") s c refl e, e) refl
drep_from s drep.Abstain w = rw w refl
drep_from s drep.NoConfidence w = rw w refl

drep_by : (s : List ℕ) (d : Drep) (a n : Bool) → bytes_eq s (codes "abstain") ≡ a → bytes_eq s (codes "no-confidence") ≡ n
    → (if a then Some drep.Abstain else if n then Some drep.NoConfidence else option_map drep.Registered (credential_of s)) ≡ Some d
    → SpellsDrep s d
drep_by s d true n p q e = rw (← same_Some drep.Abstain d e) ((bytes_eq-Decides s (codes "abstain")).0 p)
drep_by s d false true p q e = rw (← same_Some drep.NoConfidence d e) ((bytes_eq-Decides s (codes "no-confidence")).0 q)
drep_by s d false false p q e =
    let c = map_some drep.Registered (credential_of s) d e in
    rw (← c.2) (credential_of-read s c.0 c.1)

pub drep_spelled : (s : List ℕ) (d : Drep) → (drep_of s ≡ Some d) ↔ SpellsDrep s d
drep_spelled s d = (drep_by s d (bytes_eq s (codes "abstain")) (bytes_eq s (codes "no-confidence")) refl refl, drep_from s d)

pub drep_of-text : (d : Drep) → IsDrep d → drep_of (drep_text d) ≡ Some d
drep_of-text (drep.Registered c) is =
    let e = credential_of-text c is in
    rw (not_word (codes "abstain") _ c refl e, not_word (codes "no-confidence") _ c refl e, e) refl
drep_of-text drep.Abstain is = refl
drep_of-text drep.NoConfidence is = refl

-- ---- voters

voter_from : (s : List ℕ) (v : Voter) → SpellsVoter s v → voter_of s ≡ Some v
voter_from s (voter.Committee c) w = rw (w.1, (credential_spelled w.0 c).1 w.2) refl
voter_from s (voter.Drep c) w = rw (w.1, (credential_spelled w.0 c).1 w.2) refl
voter_from s (voter.Pool p) w = rw (w.1, (pool_spelled w.0 p).1 w.2) refl

-- the text after a role
behind : (s p : List ℕ) → starts_with nat_eq s p ≡ true → s ≡ p ++ drop (length p) s
behind s p h = (starts_is Decides-eqb s p (starts_with nat_eq s p) refl).0 h

voter_by : (s : List ℕ) (v : Voter) (c d p : Bool) → starts_with nat_eq s (codes "committee:") ≡ c
    → starts_with nat_eq s (codes "drep:") ≡ d → starts_with nat_eq s (codes "pool:") ≡ p
    → (if c then option_map voter.Committee (credential_of (drop 10 s)) else if d then option_map voter.Drep (credential_of (drop 5 s)) else if p then option_map voter.Pool (pool_of (drop 5 s)) else None) ≡ Some v
    → SpellsVoter s v
voter_by s v true d p hc hd hp e =
    let m = map_some voter.Committee (credential_of (drop 10 s)) v e in
    rw (← m.2) (drop 10 s, behind s (codes "committee:") hc, credential_of-read (drop 10 s) m.0 m.1)
voter_by s v false true p hc hd hp e =
    let m = map_some voter.Drep (credential_of (drop 5 s)) v e in
    rw (← m.2) (drop 5 s, behind s (codes "drep:") hd, credential_of-read (drop 5 s) m.0 m.1)
voter_by s v false false true hc hd hp e =
    let m = map_some voter.Pool (pool_of (drop 5 s)) v e in
    rw (← m.2) (drop 5 s, behind s (codes "pool:") hp, pool_of-read (drop 5 s) m.0 m.1)
voter_by s v false false false hc hd hp e = absurd (none-some v e)

pub voter_spelled : (s : List ℕ) (v : Voter) → (voter_of s ≡ Some v) ↔ SpellsVoter s v
voter_spelled s v = (
  voter_by s v (starts_with nat_eq s (codes "committee:")) (starts_with nat_eq s (codes "drep:")) (starts_with nat_eq s (codes "pool:")) refl refl refl,
  voter_from s v,
)

pub voter_of-text : (v : Voter) → IsVoter v → voter_of (voter_text v) ≡ Some v
voter_of-text (voter.Committee c) is = rw (credential_of-text c is) refl
voter_of-text (voter.Drep c) is = rw (credential_of-text c is) refl
voter_of-text (voter.Pool p) is = rw (pool_of-text p is) refl

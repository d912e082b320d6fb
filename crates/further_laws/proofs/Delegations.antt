-- Every account of a World that records reach delegates to a registered pool and to a registered DRep, if at all.
use Rattle.std.proofs.Common.{◌≡◌, ℕ, ◌+◌, List, [], ◌∷◌, Bool, true, false, ◌&&◌, ◌||◌, not, ◌==◌, cond, Option, Some, None, find, fold, is_some, length, map, nat_lt, take, refl, ap, sym, subst, ◌∙◌}
use Rattle.std.specs.declared.cmp.Ordering.TheVariants.{Less, Equal, Greater}
use Rattle.std.specs.BTreeMap.{is_at}
use Rattle.std.specs.List.{AllByRecursion, list_all, list_any}
use Rattle.std.specs.Option.{option_map}
use Rattle.std.specs.Ordering.{eq_by_cmp, match_ordering}
use Rattle.std.proofs.lemmas.Bool.{and_from, false≢true, not-false, or_left, or_parts, or_right}
use Rattle.std.proofs.lemmas.Cmp.{eq_by_cmp_equiv}
use Rattle.maps.specs.Maps.{changed_where, each_value, has_key, value_at, with_value, with_values, without_key}
use Rattle.maps.specs.Words.{among, holds, is_empty, none_or, or_else, some_and}
use Rattle.maps.proofs.Lookups.{has_key-with_value, value_at-each_value}
use Rattle.maps.proofs.Ties.{tied}
use Rattle.gov_ids.specs.declared.Credential.{Credential}
use Rattle.gov_ids.specs.declared.Drep.{Drep}
use Rattle.gov_ids.specs.declared.Drep.TheVariants as drep
use Rattle.gov_ids.specs.declared.PoolId.{PoolId}
use Rattle.gov_ids.specs.Orders.{credential_cmp, pool_cmp}
use Rattle.gov_ids.specs.Same.{same_credential, same_drep, same_pool}
use Rattle.gov_ids.proofs.Exacts.{credential_exact, pool_exact}
use Rattle.gov_ids.proofs.Totals.{credential_total, pool_total}
use Rattle.book_records.specs.declared.DrepState.{DrepState}
use Rattle.book_records.specs.declared.pool.Pool.{Pool}
use Rattle.book_records.specs.declared.Registered.{Registered}
use Rattle.book_records.specs.Dormancy.{extended, is_kept_active}
use Rattle.book_records.specs.Pools.{retired_at, retires_at, retiring, staying_at, turned}
use Rattle.tx_records.specs.declared.cert.Cert.{Cert}
use Rattle.tx_records.specs.declared.cert.Cert.TheVariants.{AccountReg, AccountUnreg, Delegate, PoolReg, PoolRetire, DrepReg, DrepUnreg, DrepUpdate, HotAuth, HotResign}
use Rattle.tx_records.specs.declared.genesis.Genesis.{Genesis}
use Rattle.tx_records.specs.declared.genesis.GenesisPool.{GenesisPool}
use Rattle.tx_records.specs.declared.genesis.GenesisRule.{GenesisRule}
use Rattle.tx_records.specs.declared.genesis.GenesisRule.TheVariants.{SupplyTooLarge, Repeated, UnknownTarget, WrongNetwork, SumWrong}
use Rattle.coin_frac.specs.declared.TheConstants.{SUPPLY_LIMIT}
use Rattle.tx_records.specs.declared.record.Record.{Record}
use Rattle.tx_records.specs.declared.record.Record.TheVariants as records
use Rattle.tx_records.specs.declared.record.Rewards.{Rewards}
use Rattle.tx_records.specs.declared.reply.Rule.{Rule}
use Rattle.tx_records.specs.declared.tx.Scripts.{Scripts}
use Rattle.tx_records.specs.declared.tx.Scripts.TheVariants.{Absent, Passed, Failed}
use Rattle.tx_records.specs.declared.tx.Tx.{Tx}
use Rattle.ledger_model.specs.CertRules.{is_unknown_drep, is_unknown_pool}
use Rattle.book_records.specs.Delegations.{delegates_to_drep, without_drep}
use Rattle.ledger_model.specs.Changes.{changed_by, delegating, dormant_added, emptied, has_voted, having_acted, is_withdrawn, new_account, new_drep, refreshed, voters_refreshed, withdrawn}
use Rattle.ledger_model.specs.Draft.{draft_with, is_refused, last_draft}
use Rattle.ledger_model.specs.Ledger.{Ledger, is_drep, is_pool}
use Rattle.ledger_model.specs.Transaction.{after_scripts}
use Rattle.run_model.specs.Boundary.{amount_to, after_enactment, after_payments, after_rewards, after_terms, credited, is_reaped, payments_due, pool_refunds, proposal_refunds, reaped, terms_turned, update_applied, without_pool, world_after_boundary}
use Rattle.run_model.specs.Genesis.{genesis_fault, genesis_sum, is_listed_drep, ledger_of_genesis, names_an_unknown, names_another_network, pool_ids, repeats_a_name, world_of_genesis}
use Rattle.run_model.specs.Runs.{IsReached, world_after_all}
use Rattle.run_model.specs.Step.{crossed, enters_next, pulsed, refusal_of, step, step_by, world_after_accepted}
use Rattle.run_model.specs.World.{World}
use Rattle.dormant_laws.proofs.Lists.{all_made, all_weaken}
use Rattle.checkpoint_model.specs.Resumable.{delegates_to_registered, is_there}

-- ---- what is said of a registration

-- its pool and its DRep are there
abbrev IsPlaced : Ledger → Registered → Type 0
IsPlaced l r = (none_or (is_pool l) r.pool ≡ true) × (none_or (is_there l) r.drep ≡ true)

abbrev Delegated : Ledger → Type 0
Delegated l = AllByRecursion (λ (e : Credential × Registered). IsPlaced l e.1) l.accounts

none_or_grows : {A : Type 0} (p q : A → Bool) (o : Option A) → ((x : A) → p x ≡ true → q x ≡ true) → none_or p o ≡ true → none_or q o ≡ true
none_or_grows p q None f h = refl
none_or_grows p q (Some x) f h = f x h

there_grows : (l m : Ledger) → ((c : Credential) → is_drep l c ≡ true → is_drep m c ≡ true) → (d : Drep) → is_there l d ≡ true → is_there m d ≡ true
there_grows l m f (drep.Registered c) h = f c h
there_grows l m f drep.Abstain h = refl
there_grows l m f drep.NoConfidence h = refl

-- where no pool and no DRep leaves
placed_grows : (l m : Ledger) → ((p : PoolId) → is_pool l p ≡ true → is_pool m p ≡ true) → ((c : Credential) → is_drep l c ≡ true → is_drep m c ≡ true)
    → (r : Registered) → IsPlaced l r → IsPlaced m r
placed_grows l m f g r h = (none_or_grows (is_pool l) (is_pool m) r.pool f h.0, none_or_grows (is_there l) (is_there m) r.drep (there_grows l m g) h.1)

grows : (l m : Ledger) → ((p : PoolId) → is_pool l p ≡ true → is_pool m p ≡ true) → ((c : Credential) → is_drep l c ≡ true → is_drep m c ≡ true)
    → m.accounts ≡ l.accounts → Delegated l → Delegated m
grows l m f g e h =
    subst (λ (es : List (Credential × Registered)). AllByRecursion (λ (x : Credential × Registered). IsPlaced m x.1) es) (sym e)
    (all_weaken (λ (x : Credential × Registered). IsPlaced l x.1) (λ (x : Credential × Registered). IsPlaced m x.1) (λ x k. placed_grows l m f g x.1 k) l.accounts h)

-- ---- maps

some_made : {A B : Type 0} (f : A → B) (o : Option A) → is_some (option_map f o) ≡ is_some o
some_made f None = refl
some_made f (Some x) = refl

-- a change of values leaves the keys
has_key-each_drep : (f : Credential → DrepState → DrepState) (es : List (Credential × DrepState)) (c : Credential) → has_key credential_cmp (each_value f es) c ≡ has_key credential_cmp es c
has_key-each_drep f es c = ap (λ (o : Option DrepState). is_some o) (value_at-each_value credential_total credential_exact f es c) ∙ some_made (f c) (value_at credential_cmp es c)

has_key-each_pool : (f : PoolId → Pool → Pool) (es : List (PoolId × Pool)) (p : PoolId) → has_key pool_cmp (each_value f es) p ≡ has_key pool_cmp es p
has_key-each_pool f es p = ap (λ (o : Option Pool). is_some o) (value_at-each_value pool_total pool_exact f es p) ∙ some_made (f p) (value_at pool_cmp es p)

module _ {X : Type 0} (P : X → Type 0) where
  all_with_value : (c : Credential) (v : X) (es : List (Credential × X)) → P v → AllByRecursion (λ (e : Credential × X). P e.1) es → AllByRecursion (λ (e : Credential × X). P e.1) (with_value credential_cmp c v es)
  all_with_value c v [] p h = (p, tt)
  all_with_value c v (e ∷ es) p h =
      elim (credential_cmp c e.0) as (λ r. AllByRecursion (λ (x : Credential × X). P x.1) (match_ordering r ((c, v) ∷ e ∷ es) ((e.0, v) ∷ es) (e ∷ with_value credential_cmp c v es))) [
        | Less ↦ (p, h)
        | Equal ↦ (p, h.1)
        | Greater ↦ (h.0, all_with_value c v es p h.1)
      ]

  all_without_key : (c : Credential) (es : List (Credential × X)) → AllByRecursion (λ (e : Credential × X). P e.1) es → AllByRecursion (λ (e : Credential × X). P e.1) (without_key credential_cmp c es)
  all_without_key c [] h = tt
  all_without_key c (e ∷ es) h =
      elim (is_at (credential_cmp c) e.0) as (λ b. AllByRecursion (λ (x : Credential × X). P x.1) (cond b es (e ∷ without_key credential_cmp c es))) [
        | true ↦ h.1
        | false ↦ (h.0, all_without_key c es h.1)
      ]

  all_with_values : (new es : List (Credential × X)) → AllByRecursion (λ (e : Credential × X). P e.1) new → AllByRecursion (λ (e : Credential × X). P e.1) es
      → AllByRecursion (λ (e : Credential × X). P e.1) (with_values credential_cmp new es)
  all_with_values [] es n h = h
  all_with_values (e ∷ new) es n h = all_with_values new (with_value credential_cmp e.0 e.1 es) n.1 (all_with_value e.0 e.1 es n.0 h)

-- an entry of another key stays
kept_drep : (c q : Credential) (es : List (Credential × DrepState)) → eq_by_cmp credential_cmp c q ≡ false → has_key credential_cmp es q ≡ true → has_key credential_cmp (without_key credential_cmp c es) q ≡ true
kept_drep c q [] n h = h
kept_drep c q (e ∷ es) n h =
    elim (is_at (credential_cmp c) e.0) as (λ b. is_at (credential_cmp c) e.0 ≡ b → has_key credential_cmp (cond b es (e ∷ without_key credential_cmp c es)) q ≡ true) [
      | true ↦ λ t.
          let other : eq_by_cmp credential_cmp q e.0 ≡ false = tied credential_total c e.0 q t ∙ n in
          ap (λ (b : Bool). is_some (cond b (Some e.1) (value_at credential_cmp es q))) (sym other) ∙ h
      | false ↦ λ t.
          elim (eq_by_cmp credential_cmp q e.0) as (λ b. is_some (cond b (Some e.1) (value_at credential_cmp es q)) ≡ true → is_some (cond b (Some e.1) (value_at credential_cmp (without_key credential_cmp c es) q)) ≡ true) [
            | true ↦ λ k. refl
            | false ↦ λ k. kept_drep c q es n k
          ] h
    ] refl

-- ---- certificates

known_pool : (d : Ledger) (o : Option PoolId) → is_unknown_pool d o ≡ false → none_or (is_pool d) o ≡ true
known_pool d None h = refl
known_pool d (Some p) h = not-false (is_pool d p) h

known_drep : (d : Ledger) (o : Option Drep) → is_unknown_drep d o ≡ false → none_or (is_there d) o ≡ true
known_drep d None h = refl
known_drep d (Some (drep.Registered c)) h = not-false (is_drep d c) h
known_drep d (Some drep.Abstain) h = refl
known_drep d (Some drep.NoConfidence) h = refl

either_of : {A : Type 0} (p : A → Bool) (o n : Option A) → none_or p n ≡ true → none_or p o ≡ true → none_or p (or_else n o) ≡ true
either_of p o None a b = b
either_of p o (Some x) a b = a

-- whom an account delegates to after a DRep left
left_there : (d m : Ledger) (c : Credential) (o : Option Drep) → ((q : Credential) → eq_by_cmp credential_cmp c q ≡ false → is_drep d q ≡ true → is_drep m q ≡ true)
    → none_or (is_there d) o ≡ true → holds same_drep o (drep.Registered c) ≡ false → none_or (is_there m) o ≡ true
left_there d m c None f h n = refl
left_there d m c (Some (drep.Registered x)) f h n = f x ((eq_by_cmp_equiv credential_total).symm c x ∙ n) h
left_there d m c (Some drep.Abstain) f h n = refl
left_there d m c (Some drep.NoConfidence) f h n = refl

placed_left : (b : Bool) (d m : Ledger) (c : Credential) (r : Registered) → delegates_to_drep c r ≡ b → ((p : PoolId) → is_pool d p ≡ true → is_pool m p ≡ true)
    → ((q : Credential) → eq_by_cmp credential_cmp c q ≡ false → is_drep d q ≡ true → is_drep m q ≡ true) → IsPlaced d r → IsPlaced m (cond b (without_drep r) r)
placed_left true d m c r e f g h = (none_or_grows (is_pool d) (is_pool m) r.pool f h.0, refl)
placed_left false d m c r e f g h = (none_or_grows (is_pool d) (is_pool m) r.pool f h.0, left_there d m c r.drep g h.1 e)

placed_delegating : (b : Bool) (d : Ledger) (pool : Option PoolId) (to : Option Drep) (r : Registered) → none_or (is_pool d) pool ≡ true → none_or (is_there d) to ≡ true
    → IsPlaced d r → IsPlaced d (cond b (delegating pool to r) r)
placed_delegating true d pool to r a b h = (either_of (is_pool d) r.pool pool a h.0, either_of (is_there d) r.drep to b h.1)
placed_delegating false d pool to r a b h = h

by_cert : (l : Ledger) (c : Cert) (d : Ledger) → is_refused l d c ≡ false → Delegated d → Delegated (changed_by c d)
by_cert l (AccountReg cred deposit pool to) d e h =
    let a = or_parts _ _ e in
    let b = or_parts _ _ a.1 in
    let c = or_parts _ _ b.1 in
    let g = or_parts _ _ c.1 in
    all_with_value (IsPlaced d) cred (new_account d pool to) d.accounts (known_pool d pool c.0, known_drep d to g.0) h
by_cert l (AccountUnreg cred refund) d e h = all_without_key (IsPlaced d) cred d.accounts h
by_cert l (Delegate cred pool to) d e h =
    let a = or_parts _ _ e in
    let b = or_parts _ _ a.1 in
    let c = or_parts _ _ b.1 in
    all_made (λ (x : Credential × Registered). IsPlaced d x.1) (λ (x : Credential × Registered). IsPlaced d x.1)
    (λ x. (x.0, cond (eq_by_cmp credential_cmp cred x.0) (delegating pool to x.1) x.1))
    (λ x k. placed_delegating (eq_by_cmp credential_cmp cred x.0) d pool to x.1 (known_pool d pool b.0) (known_drep d to c.0) k) d.accounts h
by_cert l (PoolReg pool cost pledge margin account key) d e h =
    grows d (changed_by (PoolReg pool cost pledge margin account key) d)
    (λ p k. has_key-with_value pool_total pool _ d.pools p ∙ or_right (eq_by_cmp pool_cmp pool p) (is_pool d p) k) (λ c k. k) refl h
by_cert l (PoolRetire pool epoch) d e h =
    grows d (changed_by (PoolRetire pool epoch) d)
    (λ p k. has_key-each_pool (λ q x. cond (eq_by_cmp pool_cmp pool q) (retiring epoch x) x) d.pools p ∙ k) (λ c k. k) refl h
by_cert l (DrepReg cred deposit) d e h =
    grows d (changed_by (DrepReg cred deposit) d) (λ p k. k)
    (λ c k. has_key-with_value credential_total cred (new_drep d) d.dreps c ∙ or_right (eq_by_cmp credential_cmp cred c) (is_drep d c) k) refl h
by_cert l (DrepUnreg cred refund) d e h =
    let m : Ledger = changed_by (DrepUnreg cred refund) d in
    all_made (λ (x : Credential × Registered). IsPlaced d x.1) (λ (x : Credential × Registered). IsPlaced m x.1)
    (λ x. (x.0, cond (delegates_to_drep cred x.1) (without_drep x.1) x.1))
    (λ x k. placed_left (delegates_to_drep cred x.1) d m cred x.1 refl (λ p j. j) (λ q n j. kept_drep cred q d.dreps n j) k) d.accounts h
by_cert l (DrepUpdate cred) d e h =
    grows d (changed_by (DrepUpdate cred) d) (λ p k. k)
    (λ c k. has_key-each_drep (λ q x. cond (eq_by_cmp credential_cmp cred q) (having_acted d x) x) d.dreps c ∙ k) refl h
by_cert l (HotAuth cold key) d e h = h
by_cert l (HotResign cold) d e h = h

by_either : (b : Bool) (l : Ledger) (c : Cert) (d : Ledger) → is_refused l d c ≡ b → Delegated d → Delegated (cond b d (changed_by c d))
by_either true l c d e h = h
by_either false l c d e h = by_cert l c d e h

by_certs : (l : Ledger) (cs : List Cert) (d : Ledger) → Delegated d → Delegated (fold (draft_with l) d cs)
by_certs l [] d h = h
by_certs l (c ∷ cs) d h = by_certs l cs (draft_with l d c) (by_either (is_refused l d c) l c d refl h)

-- ---- a transaction

placed_emptied : (b : Bool) (l : Ledger) (r : Registered) → IsPlaced l r → IsPlaced l (cond b (emptied r) r)
placed_emptied true l r h = h
placed_emptied false l r h = h

by_withdrawals : (tx : Tx) (l : Ledger) → Delegated l → Delegated (withdrawn tx l)
by_withdrawals tx l h =
    all_made (λ (x : Credential × Registered). IsPlaced l x.1) (λ (x : Credential × Registered). IsPlaced l x.1)
    (λ x. (x.0, cond (is_withdrawn tx x.0) (emptied x.1) x.1)) (λ x k. placed_emptied (is_withdrawn tx x.0) l x.1 k) l.accounts h

by_dormant : (b : Bool) (d : Ledger) → Delegated d → Delegated (cond b d (dormant_added d))
by_dormant true d h = h
by_dormant false d h =
    grows d (dormant_added d) (λ p k. k)
    (λ c k. has_key-each_drep (λ q x. cond (is_kept_active d.epoch d.dormant x) (extended d.dormant x) x) d.dreps c ∙ k) refl h

by_voters : (tx : Tx) (d : Ledger) → Delegated d → Delegated (voters_refreshed tx d)
by_voters tx d h =
    grows d (voters_refreshed tx d) (λ p k. k) (λ c k. has_key-each_drep (λ q x. cond (has_voted tx q) (having_acted d x) x) d.dreps c ∙ k) refl h

by_draft : (l : Ledger) (tx : Tx) → Delegated l → Delegated (last_draft l tx)
by_draft l tx h =
    let d : Ledger = cond (is_empty tx.proposals) (withdrawn tx l) (dormant_added (withdrawn tx l)) in
    by_certs l (take (length tx.certs) tx.certs) (refreshed tx (withdrawn tx l)) (by_voters tx d (by_dormant (is_empty tx.proposals) (withdrawn tx l) (by_withdrawals tx l h)))

by_scripts : (sc : Scripts) (l : Ledger) (tx : Tx) → Delegated l → Delegated (after_scripts sc l tx)
by_scripts Absent l tx h = by_draft l tx h
by_scripts Passed l tx h = by_draft l tx h
by_scripts Failed l tx h = h

-- ---- the boundary

by_credits : (ps : List (Credential × ℕ)) (l : Ledger) → Delegated l → Delegated (credited ps l)
by_credits ps l h =
    all_made (λ (x : Credential × Registered). IsPlaced l x.1) (λ (x : Credential × Registered). IsPlaced l x.1)
    (λ x. (x.0, record x.1 { rewards = x.1.rewards + amount_to ps x.0 })) (λ x k. k) l.accounts h

by_update : (o : Option Rewards) (l : Ledger) → Delegated l → Delegated (update_applied o l)
by_update None l h = h
by_update (Some u) l h = by_credits u.rewards l h

-- a registered pool that is not reaped stays
stays : (n : ℕ) (es : List (PoolId × Pool)) (p : PoolId) → has_key pool_cmp es p ≡ true → list_any (λ (e : PoolId × Pool). same_pool e.0 p) (retired_at n es) ≡ false
    → has_key pool_cmp (staying_at n es) p ≡ true
stays n [] p h none = h
stays n (e ∷ es) p h none =
    elim (retires_at n e.1) as (λ b. list_any (λ (x : PoolId × Pool). same_pool x.0 p) (cond b (e ∷ retired_at n es) (retired_at n es)) ≡ false → has_key pool_cmp (cond (not b) (e ∷ staying_at n es) (staying_at n es)) p ≡ true) [
      | true ↦ λ none.
          let parts = or_parts (same_pool e.0 p) (list_any (λ (x : PoolId × Pool). same_pool x.0 p) (retired_at n es)) none in
          let other : eq_by_cmp pool_cmp p e.0 ≡ false = (eq_by_cmp_equiv pool_total).symm p e.0 ∙ parts.0 in
          stays n es p (ap (λ (b : Bool). is_some (cond b (Some e.1) (value_at pool_cmp es p))) (sym other) ∙ h) parts.1
      | false ↦ λ none.
          elim (eq_by_cmp pool_cmp p e.0) as (λ b. is_some (cond b (Some e.1) (value_at pool_cmp es p)) ≡ true → is_some (cond b (Some e.1) (value_at pool_cmp (staying_at n es) p)) ≡ true) [
            | true ↦ λ k. refl
            | false ↦ λ k. stays n es p k none
          ] h
    ] none

pool_stays : (l m : Ledger) (o : Option PoolId) → ((p : PoolId) → is_pool l p ≡ true → is_reaped l p ≡ false → is_pool m p ≡ true) → none_or (is_pool l) o ≡ true → some_and (is_reaped l) o ≡ false → none_or (is_pool m) o ≡ true
pool_stays l m None f h n = refl
pool_stays l m (Some p) f h n = f p h n

placed_reaped : (b : Bool) (l m : Ledger) (r : Registered) → some_and (is_reaped l) r.pool ≡ b → ((p : PoolId) → is_pool l p ≡ true → is_reaped l p ≡ false → is_pool m p ≡ true)
    → ((c : Credential) → is_drep l c ≡ true → is_drep m c ≡ true) → IsPlaced l r → IsPlaced m (cond b (without_pool r) r)
placed_reaped true l m r e f g h = (refl, none_or_grows (is_there l) (is_there m) r.drep (there_grows l m g) h.1)
placed_reaped false l m r e f g h = (pool_stays l m r.pool f h.0 e, none_or_grows (is_there l) (is_there m) r.drep (there_grows l m g) h.1)

by_reaping : (l : Ledger) → Delegated l → Delegated (reaped l)
by_reaping l h =
    let m : Ledger = record l {
      pools = staying_at (l.epoch + 1) l.pools;
      accounts = changed_where (λ c (r : Registered). some_and (is_reaped l) r.pool) without_pool l.accounts;
    } in
    let left : Delegated m =
    all_made (λ (x : Credential × Registered). IsPlaced l x.1) (λ (x : Credential × Registered). IsPlaced m x.1)
    (λ x. (x.0, cond (some_and (is_reaped l) x.1.pool) (without_pool x.1) x.1))
    (λ x k. placed_reaped (some_and (is_reaped l) x.1.pool) l m x.1 refl (λ p a n. stays (l.epoch + 1) l.pools p a n) (λ c a. a) k) l.accounts h in
    by_credits (pool_refunds l) m left

by_boundary : (w : World) → Delegated w.ledger → Delegated (world_after_boundary w).ledger
by_boundary w h =
    let first : Delegated (after_rewards w).ledger = by_update w.pending w.ledger h in
    let third : Delegated (after_terms w).ledger =
    grows (after_rewards w).ledger (terms_turned (after_rewards w).ledger) (λ p k. has_key-each_pool (λ q x. turned x) (after_rewards w).ledger.pools p ∙ k) (λ c k. k) refl first in
    let fourth : Delegated (after_enactment w).ledger = by_reaping (after_terms w).ledger third in
    let fifth : Delegated (after_payments w).ledger = by_credits (payments_due (after_enactment w)) (after_enactment w).ledger fourth in
    by_credits (proposal_refunds (after_payments w)) (after_payments w).ledger fifth

by_block : (b : Bool) (w : World) (slot pulse : ℕ) → Delegated w.ledger → Delegated (pulsed slot pulse (crossed b w)).ledger
by_block true w slot pulse h = by_boundary w h
by_block false w slot pulse h = h

-- ---- records

by_accepted : (w : World) (r : Record) → Delegated w.ledger → Delegated (world_after_accepted w r).ledger
by_accepted w (records.Genesis g) h = h
by_accepted w (records.Block slot pulse) h = by_block (enters_next w.ledger slot) w slot pulse h
by_accepted w (records.Rewards u) h = h
by_accepted w (records.Tx tx) h = by_scripts tx.scripts w.ledger tx h
by_accepted w (records.Print what) h = h

by_step : (o : Option Rule) (w : World) (r : Record) → Delegated w.ledger → Delegated (step_by o w r).0.ledger
by_step (Some rule) w r h = h
by_step None w r h = by_accepted w r h

by_all : (rs : List Record) (w : World) → Delegated w.ledger → Delegated (world_after_all w rs).ledger
by_all [] w h = h
by_all (r ∷ rs) w h = by_all rs (step w r).0 (by_step (refusal_of w r) w r h)

-- ---- the genesis

stays_pool : (new es : List (PoolId × Pool)) (p : PoolId) → has_key pool_cmp es p ≡ true → has_key pool_cmp (with_values pool_cmp new es) p ≡ true
stays_pool [] es p h = h
stays_pool (e ∷ new) es p h = stays_pool new (with_value pool_cmp e.0 e.1 es) p (has_key-with_value pool_total e.0 e.1 es p ∙ or_right (eq_by_cmp pool_cmp e.0 p) (has_key pool_cmp es p) h)

stays_drep : (new es : List (Credential × DrepState)) (c : Credential) → has_key credential_cmp es c ≡ true → has_key credential_cmp (with_values credential_cmp new es) c ≡ true
stays_drep [] es c h = h
stays_drep (e ∷ new) es c h = stays_drep new (with_value credential_cmp e.0 e.1 es) c (has_key-with_value credential_total e.0 e.1 es c ∙ or_right (eq_by_cmp credential_cmp e.0 c) (has_key credential_cmp es c) h)

-- a pool that is listed is registered
listed_pool : {G : Type 0} (id : G → PoolId) (made : G → Pool) (gs : List G) (es : List (PoolId × Pool)) (p : PoolId) → among same_pool p (map id gs) ≡ true
    → has_key pool_cmp (with_values pool_cmp (map (λ g. (id g, made g)) gs) es) p ≡ true
listed_pool id made [] es p h = absurd (false≢true h)
listed_pool {G} id made (g ∷ gs) es p h =
    let next : List (PoolId × Pool) = with_value pool_cmp (id g) (made g) es in
    elim (same_pool p (id g)) as (λ b. same_pool p (id g) ≡ b → (b || among same_pool p (map id gs)) ≡ true → has_key pool_cmp (with_values pool_cmp (map (λ (x : G). (id x, made x)) gs) next) p ≡ true) [
      | true ↦ λ e h. stays_pool (map (λ (x : G). (id x, made x)) gs) next p
          (has_key-with_value pool_total (id g) (made g) es p ∙ or_left (eq_by_cmp pool_cmp (id g) p) (has_key pool_cmp es p) ((eq_by_cmp_equiv pool_total).symm (id g) p ∙ e))
      | false ↦ λ e h. listed_pool id made gs next p h
    ] refl h

-- and so is a DRep
listed_drep : {G : Type 0} (id : G → Credential) (made : G → DrepState) (gs : List G) (es : List (Credential × DrepState)) (c : Credential) → among same_credential c (map id gs) ≡ true
    → has_key credential_cmp (with_values credential_cmp (map (λ g. (id g, made g)) gs) es) c ≡ true
listed_drep id made [] es c h = absurd (false≢true h)
listed_drep {G} id made (g ∷ gs) es c h =
    let next : List (Credential × DrepState) = with_value credential_cmp (id g) (made g) es in
    elim (same_credential c (id g)) as (λ b. same_credential c (id g) ≡ b → (b || among same_credential c (map id gs)) ≡ true → has_key credential_cmp (with_values credential_cmp (map (λ (x : G). (id x, made x)) gs) next) c ≡ true) [
      | true ↦ λ e h. stays_drep (map (λ (x : G). (id x, made x)) gs) next c
          (has_key-with_value credential_total (id g) (made g) es c ∙ or_left (eq_by_cmp credential_cmp (id g) c) (has_key credential_cmp es c) ((eq_by_cmp_equiv credential_total).symm (id g) c ∙ e))
      | false ↦ λ e h. listed_drep id made gs next c h
    ] refl h

abbrev Account5 : Type 0
Account5 = Credential × ℕ × ℕ × Option PoolId × Option Drep

abbrev as_registered : Account5 → Registered
as_registered a = record { deposit = a.1; rewards = a.2; pool = a.3; drep = a.4 }

abbrev pool_of_genesis : GenesisPool → Pool
pool_of_genesis p = record {
  deposit = p.deposit;
  terms = record { cost = p.cost; pledge = p.pledge; margin = p.margin; account = p.account; key = p.key };
  future = None;
  retires = None;
}

abbrev drep_of_genesis : Credential × ℕ × ℕ → DrepState
drep_of_genesis d = record { deposit = d.1; expiry = d.2 }

is_there_listed : (g : Genesis) (d : Drep) → is_listed_drep g d ≡ true → is_there (ledger_of_genesis g) d ≡ true
is_there_listed g (drep.Registered c) h = listed_drep (λ (d : Credential × ℕ × ℕ). d.0) drep_of_genesis g.dreps [] c h
is_there_listed g drep.Abstain h = refl
is_there_listed g drep.NoConfidence h = refl

placed_listed : (g : Genesis) (a : Account5) → (not (none_or (λ p. among same_pool p (pool_ids g)) a.3) || not (none_or (is_listed_drep g) a.4)) ≡ false → IsPlaced (ledger_of_genesis g) (as_registered a)
placed_listed g a h =
    let parts = or_parts (not (none_or (λ p. among same_pool p (pool_ids g)) a.3)) (not (none_or (is_listed_drep g) a.4)) h in (
      none_or_grows (λ p. among same_pool p (pool_ids g)) (is_pool (ledger_of_genesis g)) a.3 (λ p k. listed_pool (λ (x : GenesisPool). x.pool) pool_of_genesis g.pools [] p k) (not-false _ parts.0),
      none_or_grows (is_listed_drep g) (is_there (ledger_of_genesis g)) a.4 (is_there_listed g) (not-false _ parts.1),
    )

all_listed : (g : Genesis) (xs : List Account5) → list_any (λ (a : Account5). not (none_or (λ p. among same_pool p (pool_ids g)) a.3) || not (none_or (is_listed_drep g) a.4)) xs ≡ false
    → AllByRecursion (λ (e : Credential × Registered). IsPlaced (ledger_of_genesis g) e.1) (map (λ (a : Account5). (a.0, as_registered a)) xs)
all_listed g [] h = tt
all_listed g (a ∷ xs) h = let parts = or_parts _ _ h in (placed_listed g a parts.0, all_listed g xs parts.1)

at_genesis : (g : Genesis) → names_an_unknown g ≡ false → Delegated (ledger_of_genesis g)
at_genesis g h = all_with_values (IsPlaced (ledger_of_genesis g)) (map (λ (a : Account5). (a.0, as_registered a)) g.accounts) [] (all_listed g g.accounts h) tt

-- a genesis with no fault names no unknown
third_holds : (a b c : Bool) (x y z : GenesisRule) (rest : List (Bool × GenesisRule)) → option_map (λ (q : Bool × GenesisRule). q.1) (find (λ (q : Bool × GenesisRule). q.0) ((a, x) ∷ (b, y) ∷ (c, z) ∷ rest)) ≡ None → c ≡ false
third_holds true b c x y z rest h = cc
third_holds false true c x y z rest h = cc
third_holds false false true x y z rest h = cc
third_holds false false false x y z rest h = refl

no_unknown : (g : Genesis) → genesis_fault g ≡ None → names_an_unknown g ≡ false
no_unknown g h =
    third_holds (nat_lt SUPPLY_LIMIT g.supply) (repeats_a_name g) (names_an_unknown g) SupplyTooLarge Repeated UnknownTarget
    ((names_another_network g, WrongNetwork) ∷ (not (genesis_sum g == g.supply), SumWrong) ∷ []) h

-- ---- the test

delegates : (l : Ledger) (es : List (Credential × Registered)) → AllByRecursion (λ (e : Credential × Registered). IsPlaced l e.1) es
    → list_all (λ (a : Credential × Registered). none_or (is_pool l) a.1.pool && none_or (is_there l) a.1.drep) es ≡ true
delegates l [] h = refl
delegates l (e ∷ es) h = and_from _ _ (and_from _ _ h.0.0 h.0.1) (delegates l es h.1)

pub reached_delegates : (w : World) → IsReached w → delegates_to_registered w.ledger ≡ true
reached_delegates w h =
    let d : Delegated w.ledger = subst (λ (v : World). Delegated v.ledger) h.reached (by_all h.records (world_of_genesis h.genesis) (at_genesis h.genesis (no_unknown h.genesis h.no_fault))) in
    delegates w.ledger w.ledger.accounts d

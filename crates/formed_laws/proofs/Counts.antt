-- How many accounts and frozen entries a World has at most.
use Rattle.std.proofs.Common.{◌≡◌, ℕ, ◌+◌, ◌^◌, ◌<◌, ◌≤◌, List, [], ◌∷◌, ◌++◌, Bool, true, false, ◌||◌, cond, Option, Some, None, filter, fold, is_some, length, map, nat_lt, sum_by, take, refl, ap, sym, subst, ◌∙◌, arith, inl, inr}
use Rattle.std.specs.declared.cmp.Ordering.{Ordering}
use Rattle.std.specs.declared.cmp.Ordering.TheVariants.{Less, Equal, Greater}
use Rattle.std.specs.BTreeMap.{is_at}
use Rattle.std.specs.List.{list_all}
use Rattle.std.specs.Map.{values_of}
use Rattle.std.specs.Ordering.{match_ordering}
use Rattle.std.proofs.Math.Nat.{div-le_self}
use Rattle.std.proofs.lemmas.Bool.{eqb-true, false≢true, ltb-true, or_cases}
use Rattle.std.proofs.lemmas.List.Sums.{sum_by-cons}
use Rattle.std.proofs.lemmas.List.{length-map, take_all}
use Rattle.std.proofs.lemmas.List.Kept.{IsStrictlySortedBy-filter}
use Rattle.std.proofs.lemmas.Map.Keys.{IsDistinct-from_sorted}
use Rattle.maps.specs.Maps.{IsSet, in_order, sum_values, with_value, with_values, without_key}
use Rattle.maps.specs.Words.{amount, is_empty}
use Rattle.maps.proofs.Credits.{sum_by-plus}
use Rattle.maps.proofs.Sets.{IsSet-in_order}
use Rattle.maps.proofs.Several.{sum_values-without_keys}
use Rattle.gov_ids.specs.declared.Credential.{Credential}
use Rattle.gov_ids.specs.Orders.{credential_cmp}
use Rattle.gov_ids.proofs.Exacts.{credential_exact}
use Rattle.gov_ids.proofs.Totals.{credential_total}
use Rattle.book_records.specs.declared.Registered.{Registered}
use Rattle.tx_records.specs.declared.cert.Cert.{Cert}
use Rattle.tx_records.specs.declared.cert.Cert.TheVariants.{AccountReg, AccountUnreg, Delegate, PoolReg, PoolRetire, DrepReg, DrepUnreg, DrepUpdate, HotAuth, HotResign}
use Rattle.tx_records.specs.declared.genesis.Genesis.{Genesis}
use Rattle.tx_records.specs.declared.record.Record.{Record}
use Rattle.tx_records.specs.declared.record.Record.TheVariants as records
use Rattle.tx_records.specs.declared.record.Rewards.{Rewards}
use Rattle.tx_records.specs.declared.reply.Rule.{Rule}
use Rattle.tx_records.specs.declared.tx.Scripts.{Scripts}
use Rattle.tx_records.specs.declared.tx.Scripts.TheVariants.{Absent, Passed, Failed}
use Rattle.tx_records.specs.declared.tx.Tx.{Tx}
use Rattle.tx_records.specs.RecordLimits.{is_within_limits}
use Rattle.gov_model.specs.Snapshot.{entry_count}
use Rattle.ledger_model.specs.Changes.{changed_by, dormant_added, refreshed, voters_refreshed, withdrawn}
use Rattle.ledger_model.specs.Draft.{draft_with, is_refused, last_draft}
use Rattle.ledger_model.specs.Ledger.{Ledger, account_at, is_account, output_stake}
use Rattle.ledger_model.specs.Transaction.{after_scripts}
use Rattle.run_model.specs.Boundary.{update_applied, after_enactment, after_payments, after_terms, world_after_boundary}
use Rattle.run_model.specs.Freeze.{entries_of, frozen_credentials, stake_parts}
use Rattle.run_model.specs.Genesis.{ledger_of_genesis, world_of_genesis}
use Rattle.run_model.specs.Runs.{world_after_all}
use Rattle.run_model.specs.SoundWorld.{IsSoundLedger, IsSoundWorld}
use Rattle.run_model.specs.Step.{crossed, enters_next, epoch_at, refusal_of, step, step_by, world_after_accepted}
use Rattle.run_model.specs.World.{World}
use Rattle.dormant_laws.proofs.Lists.{left_of, right_of}
use Rattle.tx_balance.proofs.Sounds.{tx_steady}
use Rattle.run_laws.proofs.GoodBlock.{update_only}
use Rattle.run_laws.proofs.Sound.{boundaries_keep_sound, genesis_begins_sound, records_keep_sound}
use Rattle.run_laws.proofs.SoundStakes.{stakes_within}
use Rattle.formed_laws.proofs.Genesis.{Account5, as_registered}
use Rattle.formed_laws.specs.Counts.{EntriesAreFew, registrations_of}

-- ---- maps

module _ {K X : Type 0} (cmp : K → K → Ordering) where
  one_longer : (k : K) (v : X) (es : List (K × X)) → length (with_value cmp k v es) ≤ length es + 1
  one_longer k v [] = omega arith
  one_longer k v (e ∷ es) =
      let later : length (with_value cmp k v es) ≤ length es + 1 = one_longer k v es in
      elim (cmp k e.0) as (λ r. length (match_ordering r ((k, v) ∷ e ∷ es) ((e.0, v) ∷ es) (e ∷ with_value cmp k v es)) ≤ length (e ∷ es) + 1) [
        | Less ↦ omega arith
        | Equal ↦ omega arith
        | Greater ↦ omega (arith, later)
      ]

  more_longer : (new es : List (K × X)) → length (with_values cmp new es) ≤ length new + length es
  more_longer [] es = omega arith
  more_longer (e ∷ new) es = omega (arith, more_longer new (with_value cmp e.0 e.1 es), one_longer e.0 e.1 es)

  no_longer : (k : K) (es : List (K × X)) → length (without_key cmp k es) ≤ length es
  no_longer k [] = omega arith
  no_longer k (e ∷ es) =
      let later : length (without_key cmp k es) ≤ length es = no_longer k es in
      elim (is_at (cmp k) e.0) as (λ b. length (cond b es (e ∷ without_key cmp k es)) ≤ length (e ∷ es)) [
        | true ↦ omega arith
        | false ↦ omega (arith, later)
      ]

-- ---- accounts

accounts_by_cert : (c : Cert) (d : Ledger) → length (changed_by c d).accounts ≤ length d.accounts + 1
accounts_by_cert (AccountReg cred deposit pool drep) d = one_longer credential_cmp cred _ d.accounts
accounts_by_cert (AccountUnreg cred refund) d = omega (arith, no_longer credential_cmp cred d.accounts)
accounts_by_cert (Delegate cred pool drep) d =
    let same : length (changed_by (Delegate cred pool drep) d).accounts ≡ length d.accounts = length-map d.accounts _ in omega (arith, same)
accounts_by_cert (PoolReg pool cost pledge margin account key) d = omega arith
accounts_by_cert (PoolRetire pool epoch) d = omega arith
accounts_by_cert (DrepReg cred deposit) d = omega arith
accounts_by_cert (DrepUnreg cred refund) d =
    let same : length (changed_by (DrepUnreg cred refund) d).accounts ≡ length d.accounts = length-map d.accounts _ in omega (arith, same)
accounts_by_cert (DrepUpdate cred) d = omega arith
accounts_by_cert (HotAuth cold key) d = omega arith
accounts_by_cert (HotResign cold) d = omega arith

accounts_either : (b : Bool) (c : Cert) (d : Ledger) → length (cond b d (changed_by c d)).accounts ≤ length d.accounts + 1
accounts_either true c d = omega arith
accounts_either false c d = accounts_by_cert c d

accounts_by_certs : (l : Ledger) (cs : List Cert) (d : Ledger) → length (fold (draft_with l) d cs).accounts ≤ length d.accounts + length cs
accounts_by_certs l [] d = omega arith
accounts_by_certs l (c ∷ cs) d = omega (arith, accounts_by_certs l cs (draft_with l d c), accounts_either (is_refused l d c) c d)

accounts_refreshed : (b : Bool) (tx : Tx) (d : Ledger) → (voters_refreshed tx (cond b d (dormant_added d))).accounts ≡ d.accounts
accounts_refreshed true tx d = refl
accounts_refreshed false tx d = refl

accounts_drafted : (l : Ledger) (tx : Tx) → length (last_draft l tx).accounts ≤ length l.accounts + length tx.certs
accounts_drafted l tx =
    let d : Ledger = refreshed tx (withdrawn tx l) in
    let same : length (withdrawn tx l).accounts ≡ length l.accounts = length-map l.accounts _ in
    omega (
      arith,
      accounts_by_certs l (take (length tx.certs) tx.certs) d,
      ap (λ (cs : List Cert). length cs) (take_all (length tx.certs) tx.certs (omega arith)),
      ap (λ (es : List (Credential × Registered)). length es) (accounts_refreshed (is_empty tx.proposals) tx (withdrawn tx l)),
      same,
    )

accounts_after : (sc : Scripts) (l : Ledger) (tx : Tx) → length (after_scripts sc l tx).accounts ≤ length l.accounts + length tx.certs
accounts_after Absent l tx = accounts_drafted l tx
accounts_after Passed l tx = accounts_drafted l tx
accounts_after Failed l tx = omega arith

accounts_updated : (o : Option Rewards) (l : Ledger) → length (update_applied o l).accounts ≡ length l.accounts
accounts_updated None l = refl
accounts_updated (Some u) l = length-map l.accounts _

accounts_at_boundary : (w : World) → length (world_after_boundary w).ledger.accounts ≡ length w.ledger.accounts
accounts_at_boundary w =
    length-map (after_payments w).ledger.accounts _ ∙ length-map (after_enactment w).ledger.accounts _ ∙ length-map _ _ ∙ length-map (after_terms w).ledger.accounts _ ∙ accounts_updated w.pending w.ledger

-- ---- entries

one_each : (P : Credential → Bool) (f : Credential → ℕ) → ((c : Credential) → P c ≡ true → 1 ≤ f c) → (cs : List Credential) → length (filter P cs) ≤ sum_by f (filter P cs)
one_each P f h [] = omega arith
one_each P f h (c ∷ cs) =
    let later : length (filter P cs) ≤ sum_by f (filter P cs) = one_each P f h cs in
    elim (P c) as (λ b. P c ≡ b → length (cond b (c ∷ filter P cs) (filter P cs)) ≤ sum_by f (cond b (c ∷ filter P cs) (filter P cs))) [
      | true ↦ λ e. omega (arith, later, h c e, sum_by-cons f c (filter P cs))
      | false ↦ λ e. later
    ] refl

one_of : (o : Option Registered) → is_some o ≡ true → 1 ≤ amount (λ (r : Registered). 1) o
one_of None e = absurd (false≢true e)
one_of (Some r) e = omega arith

counts : (l : Ledger) (c : Credential) → (is_account l c || nat_lt 0 (output_stake l c)) ≡ true → 1 ≤ output_stake l c + amount (λ (r : Registered). 1) (account_at l c)
counts l c e = elim (or_cases (is_account l c) (nat_lt 0 (output_stake l c)) e) [
  | inl a ↦ omega (arith, one_of (account_at l c) a)
  | inr b ↦ omega (arith, ltb-true 0 (output_stake l c) b)
]

ones : (es : List (Credential × Registered)) → sum_values (λ (r : Registered). 1) es ≡ length es
ones [] = refl
ones (e ∷ es) = omega (arith, sum_by-cons (λ (r : Registered). 1) e.1 (values_of es), ones es)

credentials_ordered : (l : Ledger) → IsSet credential_cmp (frozen_credentials l)
credentials_ordered l =
    let all : List Credential = map (λ (e : Credential × Registered). e.0) l.accounts ++ stake_parts l in
    IsStrictlySortedBy-filter credential_cmp (λ c. is_account l c || nat_lt 0 (output_stake l c)) (in_order credential_cmp all) (IsSet-in_order credential_total all)

entries_few : (l : Ledger) → IsSoundLedger l → length (entries_of l) ≤ length l.accounts + l.supply
entries_few l s =
    let cs : List Credential = frozen_credentials l in
    let here : Credential → ℕ = λ c. amount (λ (r : Registered). 1) (account_at l c) in
    let all : List Credential = in_order credential_cmp (map (λ (e : Credential × Registered). e.0) l.accounts ++ stake_parts l) in
    let made : length (entries_of l) ≡ length cs = length-map cs _ in
    omega (
      arith,
      made,
      one_each (λ c. is_account l c || nat_lt 0 (output_stake l c)) (λ c. output_stake l c + here c) (counts l) all,
      sum_by-plus (output_stake l) here cs,
      stakes_within l cs (credentials_ordered l),
      sum_values-without_keys credential_total credential_exact (λ (r : Registered). 1) cs l.accounts s.maps.accounts (IsDistinct-from_sorted credential_cmp cs (credentials_ordered l)),
      ones l.accounts,
      s.balanced,
    )

-- ---- a World

-- so many accounts, and with the supply so many entries
record AreFew (n supply : ℕ) (w : World) : Type 0 where
  accounts : length w.ledger.accounts ≤ n
  entries : entry_count w.frozen ≤ n + supply
  same : w.ledger.supply ≡ supply

few_more : (n m supply : ℕ) (w : World) → n ≤ m → AreFew n supply w → AreFew m supply w
few_more n m supply w h f = record { accounts = omega (arith, h, f.accounts); entries = omega (arith, h, f.entries); same = f.same }

few_at_boundary : (n supply : ℕ) (w : World) → IsSoundWorld w → w.ledger.epoch < 2 ^ 62 → AreFew n supply w → AreFew n supply (world_after_boundary w)
few_at_boundary n supply w s early f =
    let l : Ledger = (world_after_boundary w).ledger in
    let sound : IsSoundWorld (world_after_boundary w) = boundaries_keep_sound w s early in
    let accounts : length l.accounts ≡ length w.ledger.accounts = accounts_at_boundary w in
    let same : l.supply ≡ w.ledger.supply = ap (λ (x : Ledger). x.supply) (sym (update_only w.pending w.ledger)) in
    record { accounts = omega (arith, accounts, f.accounts); entries = omega (arith, entries_few l sound.ledger, accounts, f.accounts, same, f.same); same = same ∙ f.same }

few_crossed : (b : Bool) (n supply : ℕ) (w : World) (slot : ℕ) → IsSoundWorld w → enters_next w.ledger slot ≡ b → slot < 2 ^ 62 → AreFew n supply w → AreFew n supply (crossed b w)
few_crossed true n supply w slot s e early f =
    let reached : epoch_at w.ledger slot ≡ w.ledger.epoch + 1 = eqb-true (epoch_at w.ledger slot) (w.ledger.epoch + 1) e in
    few_at_boundary n supply w s (omega (arith, reached, div-le_self slot w.ledger.epoch_length, early)) f
few_crossed false n supply w slot s e early f = f

few_accepted : (n supply : ℕ) (w : World) (r : Record) → IsSoundWorld w → is_within_limits r ≡ true → AreFew n supply w → AreFew (n + registrations_of r) supply (world_after_accepted w r)
few_accepted n supply w (records.Genesis g) s h f = few_more n (n + 0) supply w (omega arith) f
few_accepted n supply w (records.Block slot pulse) s h f =
    let early : slot < 2 ^ 62 = ltb-true slot (2 ^ 62) (left_of _ _ h) in
    let k : AreFew n supply (crossed (enters_next w.ledger slot) w) = few_crossed (enters_next w.ledger slot) n supply w slot s refl early f in
    record { accounts = omega (arith, k.accounts); entries = omega (arith, k.entries); same = k.same }
few_accepted n supply w (records.Rewards u) s h f = record { accounts = omega (arith, f.accounts); entries = omega (arith, f.entries); same = f.same }
few_accepted n supply w (records.Tx tx) s h f =
    record {
      accounts = omega (arith, accounts_after tx.scripts w.ledger tx, f.accounts);
      entries = omega (arith, f.entries);
      same = sym (ap (λ (l : Ledger). l.supply) (tx_steady w.ledger tx s.ledger.maps).only) ∙ f.same;
    }
few_accepted n supply w (records.Print what) s h f = few_more n (n + 0) supply w (omega arith) f

few_step : (o : Option Rule) (n supply : ℕ) (w : World) (r : Record) → IsSoundWorld w → is_within_limits r ≡ true → AreFew n supply w → AreFew (n + registrations_of r) supply (step_by o w r).0
few_step (Some rule) n supply w r s h f = few_more n (n + registrations_of r) supply w (omega arith) f
few_step None n supply w r s h f = few_accepted n supply w r s h f

few_all : (rs : List Record) (n supply : ℕ) (w : World) → IsSoundWorld w → list_all is_within_limits rs ≡ true → AreFew n supply w → AreFew (n + sum_by registrations_of rs) supply (world_after_all w rs)
few_all [] n supply w s h f = few_more n (n + 0) supply w (omega arith) f
few_all (r ∷ rs) n supply w s h f =
    let here : is_within_limits r ≡ true = left_of (is_within_limits r) (list_all is_within_limits rs) h in
    let v : World = (step w r).0 in
    let later : AreFew (n + registrations_of r + sum_by registrations_of rs) supply (world_after_all v rs) =
    few_all rs (n + registrations_of r) supply v (records_keep_sound w r s here) (right_of (is_within_limits r) (list_all is_within_limits rs) h) (few_step (refusal_of w r) n supply w r s here f) in
    few_more (n + registrations_of r + sum_by registrations_of rs) (n + sum_by registrations_of (r ∷ rs)) supply (world_after_all v rs) (omega (arith, sum_by-cons registrations_of r rs)) later

few_at_genesis : (g : Genesis) → IsSoundWorld (world_of_genesis g) → AreFew (length g.accounts) g.supply (world_of_genesis g)
few_at_genesis g s =
    let l : Ledger = ledger_of_genesis g in
    let listed : List (Credential × Registered) = map (λ (a : Account5). (a.0, as_registered a)) g.accounts in
    let made : length listed ≡ length g.accounts = length-map g.accounts _ in
    let accounts : length l.accounts ≤ length g.accounts = omega (arith, more_longer credential_cmp listed [], made) in
    record { accounts = accounts; entries = omega (arith, entries_few l s.ledger, accounts); same = refl }

pub entries_are_few : EntriesAreFew
entries_are_few w h =
    let g : Genesis = h.genesis in
    let start : World = world_of_genesis g in
    let s : IsSoundWorld start = genesis_begins_sound g h.within h.no_fault in
    let f : AreFew (length g.accounts + sum_by registrations_of h.records) g.supply (world_after_all start h.records) = few_all h.records (length g.accounts) g.supply start s h.all_within (few_at_genesis g s) in
    subst (λ (v : World). entry_count v.frozen ≤ length g.accounts + sum_by registrations_of h.records + g.supply) h.reached f.entries

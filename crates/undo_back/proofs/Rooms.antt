-- While old outputs and accounts come back there is room for them.
use Rattle.std.proofs.Common.{◌≡◌, ℕ, suc, ◌+◌, ◌<◌, ◌≤◌, List, ◌∷◌, Option, Some, drop, get_or, length, take, ap, subst, sym, ◌∙◌, arith}
use Rattle.std.proofs.lemmas.List.{at_drop_all, at_drop_more}
use Rattle.gov_ids.proofs.Exacts.{outref_exact}
use Rattle.gov_ids.proofs.Totals.{credential_total, outref_total}
use Rattle.gov_ids.specs.declared.Credential.{Credential}
use Rattle.gov_ids.specs.declared.OutRef.{OutRef}
use Rattle.gov_ids.specs.Orders.{credential_cmp, outref_cmp}
use Rattle.book_records.specs.declared.Output.{Output}
use Rattle.book_records.specs.declared.Registered.{Registered}
use Rattle.book_records.specs.Outputs.{lovelace_in}
use Rattle.coin_frac.specs.declared.TheConstants.{SUPPLY_LIMIT}
use Rattle.maps.proofs.Sums.{sum_values-with_value_absent}
use Rattle.maps.specs.Maps.{IsMap, with_value, without_key}
use Rattle.maps.specs.Replaced.{with_option}
use Rattle.run_model.specs.SoundWorld.{IsSoundWorld}
use Rattle.run_model.specs.World.{World}
use Rattle.stake_book.specs.Stakes.{HasRoom, Stakes, accounts_of, balances_in}
use Rattle.utxo_set.specs.Utxos.{Utxos}
use Rattle.undo_model.specs.Undone.{with_old}
use Rattle.undo_back.specs.Steps.{AccountsFit, OutputsFit, without_named}
use Rattle.undo_back.specs.Undoable.{AreHoldingsOld}
use Rattle.undo_back.proofs.PutBack.{gone_here, kept_named, kept_old, old_after_gone, part_begins, part_old, put_after_gone, sum_on_the_way, sum_part, sum_without}

-- outputs and balances of a sound World are within the greatest supply
held_within : (w : World) → IsSoundWorld w → lovelace_in w.ledger.outputs + balances_in w.ledger.accounts ≤ SUPPLY_LIMIT
held_within w g = omega (arith, g.ledger.balanced, g.ledger.within)

-- while accounts come back there is room beside the outputs without the names
pub accounts_fit : (outputs : List (OutRef × Option Output)) (accounts : List (Credential × Option Registered)) (s : Stakes) → AreHoldingsOld outputs accounts s
    → IsMap outref_cmp s.outputs.outputs → IsMap credential_cmp (accounts_of s)
    → AccountsFit (lovelace_in (without_named outref_cmp outputs s.outputs.outputs)) accounts (without_named credential_cmp accounts (accounts_of s))
accounts_fit outputs accounts s held g h n =
    let w : World = held.0 in
    let maps = held.1.ledger.maps in
    let left = without_named outref_cmp outputs s.outputs.outputs in
    let none = without_named credential_cmp accounts (accounts_of s) in
    let lovelace : lovelace_in left ≤ lovelace_in w.ledger.outputs =
    sum_part outref_total (λ (o : Output). o.lovelace) left w.ledger.outputs (kept_named outref_total outputs s.outputs.outputs g) maps.outputs
    (part_begins outref_total outputs w.ledger.outputs s.outputs.outputs g held.2) in
    let balances : balances_in (with_old credential_cmp (take n accounts) none) ≤ balances_in w.ledger.accounts =
    sum_on_the_way credential_total (λ (r : Registered). r.rewards) accounts w.ledger.accounts none maps.accounts (kept_named credential_total accounts (accounts_of s) h) held.3.values
    (part_begins credential_total accounts w.ledger.accounts (accounts_of s) h held.3) n in
    omega (arith, lovelace, balances, held_within w held.1)

-- while outputs come back there is room beside the old balances
pub outputs_fit : (outputs : List (OutRef × Option Output)) (accounts : List (Credential × Option Registered)) (s : Stakes) → AreHoldingsOld outputs accounts s
    → IsMap outref_cmp s.outputs.outputs → IsMap credential_cmp (accounts_of s)
    → OutputsFit (balances_in (with_old credential_cmp accounts (without_named credential_cmp accounts (accounts_of s)))) outputs (without_named outref_cmp outputs s.outputs.outputs)
outputs_fit outputs accounts s held g h n =
    let w : World = held.0 in
    let maps = held.1.ledger.maps in
    let left = without_named outref_cmp outputs s.outputs.outputs in
    let none = without_named credential_cmp accounts (accounts_of s) in
    let none_map = kept_named credential_total accounts (accounts_of s) h in
    let lovelace : lovelace_in (with_old outref_cmp (take n outputs) left) ≤ lovelace_in w.ledger.outputs =
    sum_on_the_way outref_total (λ (o : Output). o.lovelace) outputs w.ledger.outputs left maps.outputs (kept_named outref_total outputs s.outputs.outputs g) held.2.values
    (part_begins outref_total outputs w.ledger.outputs s.outputs.outputs g held.2) n in
    let balances : balances_in (with_old credential_cmp accounts none) ≤ balances_in w.ledger.accounts =
    sum_part credential_total (λ (r : Registered). r.rewards) (with_old credential_cmp accounts none) w.ledger.accounts (kept_old credential_total accounts none none_map) maps.accounts
    (part_old credential_total accounts w.ledger.accounts none none_map held.3.values (part_begins credential_total accounts w.ledger.accounts (accounts_of s) h held.3)) in
    omega (arith, lovelace, balances, held_within w held.1)

-- ---- one step

-- there is room for the first of what is left, and then for the others
pub accounts_now : (n m : ℕ) (olds : List (Credential × Option Registered)) (i : ℕ) (d : Credential × Option Registered) (es : List (Credential × Registered)) → m ≡ n → i < length olds
    → AccountsFit n (drop i olds) es → m + balances_in (with_option credential_cmp (get_or olds i d).0 (get_or olds i d).1 es) ≤ SUPPLY_LIMIT
accounts_now n m olds i d es same l h =
    let room : n + balances_in (with_option credential_cmp (get_or olds i d).0 (get_or olds i d).1 es) ≤ SUPPLY_LIMIT =
    subst (λ (left : List (Credential × Option Registered)). n + balances_in (with_old credential_cmp (take 1 left) es) ≤ SUPPLY_LIMIT) (at_drop_more (λ (left : List (Credential × Option Registered)). left) olds i d l) (h 1) in
    omega (arith, same, room)

pub accounts_next : (n : ℕ) (olds : List (Credential × Option Registered)) (i : ℕ) (d : Credential × Option Registered) (es fs : List (Credential × Registered)) → i < length olds
    → fs ≡ with_option credential_cmp (get_or olds i d).0 (get_or olds i d).1 es → AccountsFit n (drop i olds) es → AccountsFit n (drop (i + 1) olds) fs
accounts_next n olds i d es fs l e h k =
    subst (λ (gs : List (Credential × Registered)). n + balances_in (with_old credential_cmp (take k (drop (i + 1) olds)) gs) ≤ SUPPLY_LIMIT) (sym e)
    (subst (λ (left : List (Credential × Option Registered)). n + balances_in (with_old credential_cmp (take (suc k) left) es) ≤ SUPPLY_LIMIT) (at_drop_more (λ (left : List (Credential × Option Registered)). left) olds i d l) (h (suc k)))

pub outputs_now : (n m : ℕ) (r : OutRef) (to : Option Output) (olds left : List (OutRef × Option Output)) (es : List (OutRef × Output)) → left ≡ (r, to) ∷ olds → m ≡ n
    → OutputsFit n left es → lovelace_in (with_option outref_cmp r to es) + m ≤ SUPPLY_LIMIT
outputs_now n m r to olds left es is same h =
    let room : lovelace_in (with_option outref_cmp r to es) + n ≤ SUPPLY_LIMIT =
    subst (λ (xs : List (OutRef × Option Output)). lovelace_in (with_old outref_cmp (take 1 xs) es) + n ≤ SUPPLY_LIMIT) is (h 1) in
    omega (arith, same, room)

pub outputs_next : (n : ℕ) (r : OutRef) (to : Option Output) (olds left : List (OutRef × Option Output)) (es fs : List (OutRef × Output)) → left ≡ (r, to) ∷ olds
    → fs ≡ with_option outref_cmp r to es → OutputsFit n left es → OutputsFit n olds fs
outputs_next n r to olds left es fs is e h k =
    subst (λ (gs : List (OutRef × Output)). lovelace_in (with_old outref_cmp (take k olds) gs) + n ≤ SUPPLY_LIMIT) (sym e)
    (subst (λ (xs : List (OutRef × Option Output)). lovelace_in (with_old outref_cmp (take (suc k) xs) es) + n ≤ SUPPLY_LIMIT) is (h (suc k)))

-- an output has room once what its reference had is spent
pub output_fits : (n : ℕ) (r : OutRef) (o : Output) (es : List (OutRef × Output)) → IsMap outref_cmp es → lovelace_in (with_value outref_cmp r o es) + n ≤ SUPPLY_LIMIT
    → lovelace_in (without_key outref_cmp r es) + n + o.lovelace ≤ SUPPLY_LIMIT
output_fits n r o es h room =
    let left = without_key outref_cmp r es in
    omega (
      arith,
      room,
      ap (λ (fs : List (OutRef × Output)). lovelace_in fs) (put_after_gone outref_total outref_exact r o es h),
      sum_values-with_value_absent (λ (x : Output). x.lovelace) outref_cmp r o left (gone_here outref_total r es h),
    )

-- a registration that ends leaves room
pub ended_fits : (s : Stakes) (c : Credential) → HasRoom 0 s → lovelace_in s.outputs.outputs + balances_in (without_key credential_cmp c (accounts_of s)) ≤ SUPPLY_LIMIT
ended_fits s c room = omega (arith, room, sum_without credential_total (λ (r : Registered). r.rewards) c (accounts_of s))

-- ---- one output

-- what a reference had is spent, and it gets an output
pub output_put : (r : OutRef) (to : Option Output) (o : Output) (u v w : Utxos) → IsMap outref_cmp u.outputs → to ≡ Some o → v ≡ record u { outputs = without_key outref_cmp r u.outputs }
    → w ≡ record v { outputs = with_value outref_cmp r o v.outputs } → w ≡ record u { outputs = with_option outref_cmp r to u.outputs }
output_put r to o u v w h is spent put =
    put
    ∙ (λ i. record (spent i) { outputs = with_value outref_cmp r o (spent i).outputs })
    ∙ ap (λ (es : List (OutRef × Output)). record u { outputs = es }) (put_after_gone outref_total outref_exact r o u.outputs h)
    ∙ ap (λ (x : Option Output). record u { outputs = with_option outref_cmp r x u.outputs }) (sym is)

-- one old output more is put back
pub outputs_backing : (r : OutRef) (to : Option Output) (olds left : List (OutRef × Option Output)) (u v : Utxos) → left ≡ (r, to) ∷ olds → v ≡ record u { outputs = with_option outref_cmp r to u.outputs }
    → ◌≡◌ {A = Utxos} (record v { outputs = with_old outref_cmp olds v.outputs }) (record u { outputs = with_old outref_cmp left u.outputs })
outputs_backing r to olds left u v is e =
    (λ i. record (e i) { outputs = with_old outref_cmp olds (e i).outputs })
    ∙ ap (λ (xs : List (OutRef × Option Output)). record u { outputs = with_old outref_cmp xs u.outputs }) (sym is)

-- ---- all outputs and accounts

-- the old outputs are put back after the names lost theirs
pub outputs_back : (olds : List (OutRef × Option Output)) (u v w : Utxos) → IsMap outref_cmp u.outputs → v ≡ record u { outputs = without_named outref_cmp olds u.outputs }
    → w ≡ record v { outputs = with_old outref_cmp olds v.outputs } → w ≡ record u { outputs = with_old outref_cmp olds u.outputs }
outputs_back olds u v w h gone back =
    back
    ∙ (λ i. record (gone i) { outputs = with_old outref_cmp olds (gone i).outputs })
    ∙ ap (λ (es : List (OutRef × Output)). record u { outputs = es }) (old_after_gone outref_total outref_exact olds u.outputs h)

-- the outputs without the names that are left; one name more has lost its output
abbrev pub going : List (OutRef × Option Output) → Utxos → Utxos
going olds u = record u { outputs = without_named outref_cmp olds u.outputs }

pub outputs_going : (olds : List (OutRef × Option Output)) (i : ℕ) (d item : OutRef × Option Output) (u v : Utxos) → i < length olds → item ≡ get_or olds i d
    → v ≡ record u { outputs = without_key outref_cmp item.0 u.outputs } → going (drop (i + 1) olds) v ≡ going (drop i olds) u
outputs_going olds i d item u v l is e =
    sym (at_drop_more (λ (left : List (OutRef × Option Output)). going left u) olds i d l
    ∙ ap (λ (x : OutRef × Option Output). going (drop (i + 1) olds) (record u { outputs = without_key outref_cmp x.0 u.outputs })) (sym is)
    ∙ ap (λ (x : Utxos). going (drop (i + 1) olds) x) (sym e))

pub outputs_gone : (olds : List (OutRef × Option Output)) (i : ℕ) (u : Utxos) → length olds ≤ i → going (drop i olds) u ≡ u
outputs_gone olds i u l = at_drop_all (λ (left : List (OutRef × Option Output)). going left u) olds i l

-- what names lost is what equal names lost
pub taken_from : (olds names : List (OutRef × Option Output)) (u v : Utxos) → names ≡ olds → v ≡ going names u → v ≡ going olds u
taken_from olds names u v is e = e ∙ ap (λ (xs : List (OutRef × Option Output)). going xs u) is

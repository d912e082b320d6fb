-- What accepted blocks have counted, before a record and after it.
use Rattle.std.proofs.Common.{◌≡◌, ◌∙◌, ℕ, ◌+◌, ◌/◌, ◌==◌, ◌<◌, ◌≤◌, min, List, [], ◌∷◌, ◌++◌, Bool, true, false, cond, Option, Some, None, filter_map, nat_le, sum_by, refl, ap, sym, subst, arith}
use Rattle.std.specs.List.{AllByRecursion, cons_option}
use Rattle.std.proofs.Math.Nat.{min-eq_left}
use Rattle.std.proofs.lemmas.Bool.{eqb-true, eq-eqb, leb-true, leb-false, ltb-false}
use Rattle.std.proofs.lemmas.List.Elements.{filter_map-append}
use Rattle.std.proofs.lemmas.List.Sums.{sum_by-append, sum_by-cons}
use Rattle.tx_records.specs.declared.record.Record.{Record}
use Rattle.tx_records.specs.declared.record.Record.TheVariants as records
use Rattle.gov_model.specs.Snapshot.{Snapshot, entry_count}
use Rattle.ledger_model.specs.Ledger.{Ledger}
use Rattle.ledger_model.proofs.Unbroken.{IsUnbroken, unbroken-cons}
use Rattle.run_model.specs.Boundary.{world_after_boundary}
use Rattle.run_model.specs.Runs.{pulse_in}
use Rattle.run_model.specs.Step.{block_checks, crossed, enters_next, epoch_at, pulsed, refusal_of, world_after_accepted}
use Rattle.run_model.specs.World.{World}
use Rattle.tx_balance.proofs.Sounds.{tx_steady}
use Rattle.further_laws.proofs.proofs_of_run_laws.Counted.{later_epoch, min_right, not_equal, same_pulse}
use Rattle.further_laws.proofs.proofs_of_run_laws.Good.{IsGood}
use Rattle.further_laws.proofs.proofs_of_run_laws.GoodBlock.{boundary_epoch, boundary_length}
use Rattle.further_laws.proofs.Standing.{IsTimed}
use Rattle.follow_model.specs.Chain.{counted_by}

-- the sum of the pulses of the blocks of the World's epoch
abbrev pulses : World → List Record → ℕ
pulses v rs = sum_by (λ (n : ℕ). n) (filter_map (pulse_in v) rs)

-- what one pulse adds
abbrev added : Option ℕ → ℕ
added None = 0
added (Some n) = n

pulses-one : (o : Option ℕ) (v : World) (r : Record) (rs : List Record) → pulse_in v r ≡ o → pulses v (r ∷ rs) ≡ added o + pulses v rs
pulses-one None v r rs e = omega (arith, ap (λ (o : Option ℕ). sum_by (λ (n : ℕ). n) (cons_option o (filter_map (pulse_in v) rs))) e)
pulses-one (Some n) v r rs e =
    omega (arith, ap (λ (o : Option ℕ). sum_by (λ (n : ℕ). n) (cons_option o (filter_map (pulse_in v) rs))) e, sum_by-cons (λ (n : ℕ). n) n (filter_map (pulse_in v) rs))

pulses-append : (v : World) (rs : List Record) (r : Record) → pulses v (rs ++ r ∷ []) ≡ pulses v rs + added (pulse_in v r)
pulses-append v rs r = omega (
  arith,
  ap (λ (ns : List ℕ). sum_by (λ (n : ℕ). n) ns) (filter_map-append (pulse_in v) rs (r ∷ [])),
  sum_by-append (λ (n : ℕ). n) (filter_map (pulse_in v) rs) (filter_map (pulse_in v) (r ∷ [])),
  pulses-one (pulse_in v r) v r [] refl,
)

pub same_pulses : (v w : World) (rs : List Record) → v.ledger.epoch ≡ w.ledger.epoch → v.ledger.epoch_length ≡ w.ledger.epoch_length → pulses v rs ≡ pulses w rs
same_pulses v w [] e l = refl
same_pulses v w (r ∷ rs) e l =
    omega (arith, pulses-one (pulse_in v r) v r rs refl, pulses-one (pulse_in w r) w r rs refl, ap (λ (o : Option ℕ). added o) (same_pulse v w r e l), same_pulses v w rs e l)

-- a World of the same epoch and the same frozen entries has counted as much
pub counts_same : (v w : World) (rs : List Record) → v.ledger.epoch ≡ w.ledger.epoch → v.ledger.epoch_length ≡ w.ledger.epoch_length → v.frozen ≡ w.frozen
    → counted_by v rs ≡ counted_by w rs
counts_same v w rs e l f =
    ap (λ (x : Snapshot). min (entry_count x) (pulses v rs)) f ∙ ap (λ (n : ℕ). min (entry_count w.frozen) n) (same_pulses v w rs e l)

-- ---- blocks up to an epoch

-- a block is not past the epoch
abbrev pub IsUpTo : World → Record → Type 0
IsUpTo v (records.Block slot pulse) = epoch_at v.ledger slot ≤ v.ledger.epoch
IsUpTo v r = Unit {0}

is_before : (b : Bool) (n m k : ℕ) → n ≤ m → k ≡ m + 1 → (n == k) ≡ b → b ≡ false
is_before true n m k l e h = absurd (omega (arith, eqb-true n k h))
is_before false n m k l e h = refl

-- it counts nothing in the next one
none_in_next : (v w : World) (r : Record) → IsUpTo v r → w.ledger.epoch ≡ v.ledger.epoch + 1 → w.ledger.epoch_length ≡ v.ledger.epoch_length → added (pulse_in w r) ≡ 0
none_in_next v w (records.Genesis g) u e l = refl
none_in_next v w (records.Block slot pulse) u e l =
    let at : epoch_at w.ledger slot ≤ v.ledger.epoch = subst (λ (n : ℕ). slot / n ≤ v.ledger.epoch) (sym l) u in
    ap (λ (b : Bool). added (cond b (Some pulse) None)) (is_before _ (epoch_at w.ledger slot) v.ledger.epoch w.ledger.epoch at e refl)
none_in_next v w (records.Rewards x) u e l = refl
none_in_next v w (records.Tx tx) u e l = refl
none_in_next v w (records.Print what) u e l = refl

none_now : (v w : World) (rs : List Record) → AllByRecursion (IsUpTo v) rs → w.ledger.epoch ≡ v.ledger.epoch + 1 → w.ledger.epoch_length ≡ v.ledger.epoch_length → pulses w rs ≡ 0
none_now v w [] u e l = refl
none_now v w (r ∷ rs) u e l = omega (arith, pulses-one (pulse_in w r) w r rs refl, none_in_next v w r u.0 e l, none_now v w rs u.1 e l)

up_to_later : (v w : World) (r : Record) → v.ledger.epoch ≤ w.ledger.epoch → w.ledger.epoch_length ≡ v.ledger.epoch_length → IsUpTo v r → IsUpTo w r
up_to_later v w (records.Genesis g) e l u = tt
up_to_later v w (records.Block slot pulse) e l u = let at : epoch_at w.ledger slot ≤ v.ledger.epoch = subst (λ (n : ℕ). slot / n ≤ v.ledger.epoch) (sym l) u in omega (arith, at, e)
up_to_later v w (records.Rewards x) e l u = tt
up_to_later v w (records.Tx tx) e l u = tt
up_to_later v w (records.Print what) e l u = tt

pub all_later : (v w : World) (rs : List Record) → v.ledger.epoch ≤ w.ledger.epoch → w.ledger.epoch_length ≡ v.ledger.epoch_length → AllByRecursion (IsUpTo v) rs → AllByRecursion (IsUpTo w) rs
all_later v w [] e l u = tt
all_later v w (r ∷ rs) e l u = (up_to_later v w r e l u.0, all_later v w rs e l u.1)

pub all_more : (v : World) (rs : List Record) (r : Record) → AllByRecursion (IsUpTo v) rs → IsUpTo v r → AllByRecursion (IsUpTo v) (rs ++ r ∷ [])
all_more v [] r u h = (h, tt)
all_more v (x ∷ rs) r u h = (u.0, all_more v rs r u.1 h)

-- ---- one record more

at_least : (n s p : ℕ) → n ≤ s → n ≤ s + p
at_least n s p l = omega arith

min_add : (n s p : ℕ) → min n (min n s + p) ≡ min n (s + p)
min_add n s p = elim (nat_le n s) as (λ b. nat_le n s ≡ b → min n (min n s + p) ≡ min n (s + p)) [
  | true ↦ λ e.
      let l : n ≤ s = leb-true n s e in
      let self : n ≤ n = omega arith in
      ap (λ (k : ℕ). min n (k + p)) (min-eq_left l) ∙ min-eq_left (at_least n n p self) ∙ sym (min-eq_left (at_least n s p l))
  | false ↦ λ e. ap (λ (k : ℕ). min n (k + p)) (min_right n s (leb-false n s e))
] refl

-- a record that is no block leaves the count
none_added : (v w : World) (rs : List Record) (r : Record) → w.ledger.epoch ≡ v.ledger.epoch → w.ledger.epoch_length ≡ v.ledger.epoch_length → w.frozen ≡ v.frozen → added (pulse_in w r) ≡ 0
    → counted_by v rs ≡ counted_by w (rs ++ r ∷ [])
none_added v w rs r e l f none =
    let same : pulses v rs ≡ pulses w (rs ++ r ∷ []) = omega (arith, same_pulses v w rs (sym e) (sym l), pulses-append w rs r, none) in
    ap (λ (x : Snapshot). min (entry_count x) (pulses v rs)) (sym f) ∙ ap (λ (n : ℕ). min (entry_count w.frozen) n) same

-- a block adds its pulse, to nothing in a new epoch
block_added : (b : Bool) (w : World) (rs : List Record) (slot pulse : ℕ) → IsTimed w → AllByRecursion (IsUpTo w) rs → enters_next w.ledger slot ≡ b → w.ledger.slot < slot → epoch_at w.ledger slot ≤ w.ledger.epoch + 1
    → (pulsed slot pulse (crossed b (record w { counted = counted_by w rs }))).counted ≡ counted_by (pulsed slot pulse (crossed b w)) (rs ++ records.Block slot pulse ∷ [])
block_added false w rs slot pulse t up e after within =
    let x : World = pulsed slot pulse w in
    let least : w.ledger.epoch ≤ epoch_at w.ledger slot = subst (λ (n : ℕ). n ≤ epoch_at w.ledger slot) (sym t.clock) (later_epoch w.ledger.slot slot w.ledger.epoch_length t.long (omega (arith, after))) in
    let here : epoch_at w.ledger slot ≡ w.ledger.epoch = omega (arith, least, within, not_equal (epoch_at w.ledger slot) (w.ledger.epoch + 1) e) in
    let one : added (pulse_in x (records.Block slot pulse)) ≡ pulse = ap (λ (c : Bool). added (cond c (Some pulse) None)) (eq-eqb (epoch_at w.ledger slot) w.ledger.epoch here) in
    let sums : pulses w rs + pulse ≡ pulses x (rs ++ records.Block slot pulse ∷ []) = omega (arith, same_pulses w x rs refl refl, pulses-append x rs (records.Block slot pulse), one) in
    min_add (entry_count w.frozen) (pulses w rs) pulse ∙ ap (λ (n : ℕ). min (entry_count w.frozen) n) sums
block_added true w rs slot pulse t up e after within =
    let x : World = pulsed slot pulse (world_after_boundary w) in
    let next : x.ledger.epoch ≡ w.ledger.epoch + 1 = boundary_epoch w in
    let long : x.ledger.epoch_length ≡ w.ledger.epoch_length = boundary_length w in
    let at : epoch_at w.ledger slot ≡ w.ledger.epoch + 1 = eqb-true (epoch_at w.ledger slot) (w.ledger.epoch + 1) e in
    let here : epoch_at x.ledger slot ≡ x.ledger.epoch = ap (λ (n : ℕ). slot / n) long ∙ at ∙ sym next in
    let one : added (pulse_in x (records.Block slot pulse)) ≡ pulse = ap (λ (c : Bool). added (cond c (Some pulse) None)) (eq-eqb (epoch_at x.ledger slot) x.ledger.epoch here) in
    let sums : 0 + pulse ≡ pulses x (rs ++ records.Block slot pulse ∷ []) = omega (arith, none_now w x rs up next long, pulses-append x rs (records.Block slot pulse), one) in
    ap (λ (n : ℕ). min (entry_count x.frozen) n) sums

pub count_after : (w : World) (rs : List Record) (r : Record) → IsGood w → IsTimed w → AllByRecursion (IsUpTo w) rs → refusal_of w r ≡ None
    → (world_after_accepted (record w { counted = counted_by w rs }) r).counted ≡ counted_by (world_after_accepted w r) (rs ++ r ∷ [])
count_after w rs (records.Genesis g) good t up e = cc
count_after w rs (records.Block slot pulse) good t up e =
    let all : IsUnbroken (block_checks w.ledger slot pulse) = record { none = e } in
    let a = unbroken-cons _ _ all in
    let b = unbroken-cons _ _ a.1 in
    block_added (enters_next w.ledger slot) w rs slot pulse t up refl (leb-false slot w.ledger.slot a.0) (ltb-false (w.ledger.epoch + 1) (epoch_at w.ledger slot) b.0)
count_after w rs (records.Rewards u) good t up e = none_added w (world_after_accepted w (records.Rewards u)) rs (records.Rewards u) refl refl refl refl
count_after w rs (records.Tx tx) good t up e =
    let s = (tx_steady w.ledger tx good.ledger.sound).only in
    none_added w (world_after_accepted w (records.Tx tx)) rs (records.Tx tx) (ap (λ (l : Ledger). l.epoch) (sym s)) (ap (λ (l : Ledger). l.epoch_length) (sym s)) refl refl
count_after w rs (records.Print what) good t up e = none_added w w rs (records.Print what) refl refl refl refl

-- What was counted is the sum of the pulses of the epoch.
use Rattle.std.proofs.Common.{◌≡◌, ℕ, ◌+◌, ◌/◌, ◌==◌, ◌<◌, ◌≤◌, min, List, [], ◌∷◌, ◌++◌, Bool, true, false, cond, Option, Some, None, is_none, filter_map, sum_by, nat_le, refl, ap, sym, subst, ◌∙◌, arith, append_assoc}
use Rattle.std.specs.List.{AllByRecursion, list_all}
use Rattle.std.specs.List.{cons_option}
use Rattle.std.proofs.Math.Nat.{div-mul-le_self, min-eq_left, min-eq_right}
use Rattle.std.proofs.lemmas.Nat.{le-div}
use Rattle.std.proofs.lemmas.Bool.{eqb-true, eq-eqb, ltb-false, leb-true, leb-false}
use Rattle.std.proofs.lemmas.List.{append-nil}
use Rattle.std.proofs.lemmas.List.Elements.{filter_map-append}
use Rattle.std.proofs.lemmas.List.Sums.{sum_by-append, sum_by-cons}
use Rattle.gov_model.specs.Snapshot.{Snapshot, entry_count}
use Rattle.tx_records.proofs.Parts.{genesis_parts}
use Rattle.tx_records.specs.declared.genesis.Genesis.{Genesis}
use Rattle.tx_records.specs.declared.record.Record.{Record}
use Rattle.tx_records.specs.declared.record.Record.TheVariants as records
use Rattle.tx_records.specs.declared.reply.Rule.{Rule}
use Rattle.tx_records.specs.declared.tx.Tx.{Tx}
use Rattle.ledger_model.specs.Ledger.{Ledger}
use Rattle.ledger_model.specs.Transaction.{ledger_after_tx}
use Rattle.ledger_model.proofs.Unbroken.{IsUnbroken, unbroken-cons}
use Rattle.run_model.specs.World.{World}
use Rattle.run_model.specs.Boundary.{world_after_boundary}
use Rattle.run_model.specs.Genesis.{world_of_genesis}
use Rattle.run_model.specs.Laws.{CountedIsThePulses}
use Rattle.tx_records.specs.GenesisLimits as genesis_limits
use Rattle.tx_records.specs.RecordLimits.{is_within_limits}
use Rattle.run_model.specs.Runs.{accepted_records, pulse_in, world_after_all}
use Rattle.run_model.specs.Step.{block_checks, crossed, enters_next, epoch_at, pulsed, refusal_of, step_by, world_after_accepted}
use Rattle.run_laws.proofs.Good.{IsGood}
use Rattle.dormant_laws.proofs.Lists.{left_of, right_of, all_weaken, all_append}
use Rattle.tx_balance.proofs.Sounds.{tx_steady}
use Rattle.run_laws.proofs.GoodBlock.{boundary_epoch, boundary_length}
use Rattle.run_laws.proofs.Reach.{accepted_good}
use Rattle.run_laws.proofs.Start.{genesis_good}

abbrev sum_of : List ℕ → ℕ
sum_of ns = sum_by (λ (n : ℕ). n) ns

-- pulses of the epoch in a list of accepted records
abbrev pulses : World → List Record → ℕ
pulses v rs = sum_of (filter_map (pulse_in v) rs)

-- a block is not past the epoch
abbrev IsUpTo : World → Record → Type 0
IsUpTo v (records.Block slot pulse) = epoch_at v.ledger slot ≤ v.ledger.epoch
IsUpTo v r = Unit {0}

record IsCounting (rs : List Record) (v : World) : Type 0 where
  counted : v.counted ≡ min (entry_count v.frozen) (pulses v rs)
  bounded : AllByRecursion (IsUpTo v) rs
  clock : v.ledger.epoch ≡ v.ledger.slot / v.ledger.epoch_length
  long : 0 < v.ledger.epoch_length

pub same_pulse : (v w : World) (r : Record) → v.ledger.epoch ≡ w.ledger.epoch → v.ledger.epoch_length ≡ w.ledger.epoch_length → pulse_in v r ≡ pulse_in w r
same_pulse v w (records.Genesis g) e l = refl
same_pulse v w (records.Block slot pulse) e l = ap (λ (n : ℕ). cond (slot / n == v.ledger.epoch) (Some pulse) None) l ∙ ap (λ (n : ℕ). cond (slot / w.ledger.epoch_length == n) (Some pulse) None) e
same_pulse v w (records.Rewards u) e l = refl
same_pulse v w (records.Tx tx) e l = refl
same_pulse v w (records.Print what) e l = refl

-- what each record adds
abbrev added : Option ℕ → ℕ
added None = 0
added (Some n) = n

pulses-one : (o : Option ℕ) (v : World) (r : Record) (rs : List Record) → pulse_in v r ≡ o → pulses v (r ∷ rs) ≡ added o + pulses v rs
pulses-one None v r rs e = omega (arith, ap (λ (o : Option ℕ). sum_of (cons_option o (filter_map (pulse_in v) rs))) e)
pulses-one (Some n) v r rs e = omega (arith, ap (λ (o : Option ℕ). sum_of (cons_option o (filter_map (pulse_in v) rs))) e, sum_by-cons (λ (n : ℕ). n) n (filter_map (pulse_in v) rs))

pulses-append : (v : World) (rs : List Record) (r : Record) → pulses v (rs ++ r ∷ []) ≡ pulses v rs + added (pulse_in v r)
pulses-append v rs r = omega (
  arith,
  ap (λ (ns : List ℕ). sum_of ns) (filter_map-append (pulse_in v) rs (r ∷ [])),
  sum_by-append (λ (n : ℕ). n) (filter_map (pulse_in v) rs) (filter_map (pulse_in v) (r ∷ [])),
  pulses-one (pulse_in v r) v r [] refl,
)

same_pulses : (v w : World) (rs : List Record) → v.ledger.epoch ≡ w.ledger.epoch → v.ledger.epoch_length ≡ w.ledger.epoch_length → pulses v rs ≡ pulses w rs
same_pulses v w [] e l = refl
same_pulses v w (r ∷ rs) e l =
    omega (arith, pulses-one (pulse_in v r) v r rs refl, pulses-one (pulse_in w r) w r rs refl, ap (λ (o : Option ℕ). added o) (same_pulse v w r e l), same_pulses v w rs e l)

-- a record that is not past the epoch counts nothing in the next one
is_before : (b : Bool) (n m k : ℕ) → n ≤ m → k ≡ m + 1 → (n == k) ≡ b → b ≡ false
is_before true n m k l e h = absurd (omega (arith, eqb-true n k h))
is_before false n m k l e h = refl

none_in_next : (v w : World) (r : Record) → IsUpTo v r → w.ledger.epoch ≡ v.ledger.epoch + 1 → w.ledger.epoch_length ≡ v.ledger.epoch_length → added (pulse_in w r) ≡ 0
none_in_next v w (records.Genesis g) u e l = refl
none_in_next v w (records.Block slot pulse) u e l =
    let at : epoch_at w.ledger slot ≤ v.ledger.epoch = subst (λ (n : ℕ). slot / n ≤ v.ledger.epoch) (sym l) u in
    ap (λ (b : Bool). added (cond b (Some pulse) None)) (is_before _ (epoch_at w.ledger slot) v.ledger.epoch w.ledger.epoch at e refl)
none_in_next v w (records.Rewards x) u e l = refl
none_in_next v w (records.Tx tx) u e l = refl
none_in_next v w (records.Print what) u e l = refl

none_now : (v w : World) (rs : List Record) → AllByRecursion (IsUpTo v) rs → w.ledger.epoch ≡ v.ledger.epoch + 1 → w.ledger.epoch_length ≡ v.ledger.epoch_length → pulses w rs ≡ 0
none_now v w [] u e l = refl
none_now v w (r ∷ rs) u e l = omega (arith, pulses-one (pulse_in w r) w r rs refl, none_in_next v w r u.0 e l, none_now v w rs u.1 e l)

-- bounds carry over to a later epoch
up_to_later : (v w : World) (r : Record) → v.ledger.epoch ≤ w.ledger.epoch → w.ledger.epoch_length ≡ v.ledger.epoch_length → IsUpTo v r → IsUpTo w r
up_to_later v w (records.Genesis g) e l u = tt
up_to_later v w (records.Block slot pulse) e l u = let at : epoch_at w.ledger slot ≤ v.ledger.epoch = subst (λ (n : ℕ). slot / n ≤ v.ledger.epoch) (sym l) u in omega (arith, at, e)
up_to_later v w (records.Rewards x) e l u = tt
up_to_later v w (records.Tx tx) e l u = tt
up_to_later v w (records.Print what) e l u = tt

all_later : (v w : World) (rs : List Record) → v.ledger.epoch ≤ w.ledger.epoch → w.ledger.epoch_length ≡ v.ledger.epoch_length → AllByRecursion (IsUpTo v) rs → AllByRecursion (IsUpTo w) rs
all_later v w rs e l u = all_weaken (IsUpTo v) (IsUpTo w) (λ r x. up_to_later v w r e l x) rs u

-- the clock and the count stay
record IsSameTime (v w : World) : Type 0 where
  epoch : w.ledger.epoch ≡ v.ledger.epoch
  slot : w.ledger.slot ≡ v.ledger.slot
  epoch_length : w.ledger.epoch_length ≡ v.ledger.epoch_length
  counted : w.counted ≡ v.counted
  frozen : w.frozen ≡ v.frozen

tx_time : (w : World) (tx : Tx) → IsGood w → IsSameTime w (record w { ledger = ledger_after_tx w.ledger tx })
tx_time w tx g =
    let s = (tx_steady w.ledger tx g.ledger.sound).only in
    record { epoch = ap (λ (l : Ledger). l.epoch) (sym s); slot = ap (λ (l : Ledger). l.slot) (sym s); epoch_length = ap (λ (l : Ledger). l.epoch_length) (sym s); counted = refl; frozen = refl }

-- a record that is no block leaves the count
add_other : (rs : List Record) (r : Record) (v w : World) → IsCounting rs v → IsSameTime v w → added (pulse_in w r) ≡ 0 → IsUpTo w r → IsCounting (rs ++ r ∷ []) w
add_other rs r v w c t n u =
    record {
      counted = t.counted ∙ c.counted ∙ ap (λ (f : Snapshot). min (entry_count f) (pulses v rs)) (sym t.frozen)
          ∙ ap (λ (k : ℕ). min (entry_count w.frozen) k) (let same : pulses v rs ≡ pulses w (rs ++ r ∷ []) = omega (arith, same_pulses v w rs (sym t.epoch) (sym t.epoch_length), pulses-append w rs r, n) in same);
      bounded = all_append (IsUpTo w) rs (r ∷ []) (all_later v w rs (omega (arith, t.epoch)) t.epoch_length c.bounded) (u, tt);
      clock = t.epoch ∙ c.clock ∙ ap (λ (k : ℕ). k / v.ledger.epoch_length) (sym t.slot) ∙ ap (λ (k : ℕ). w.ledger.slot / k) (sym t.epoch_length);
      long = subst (λ (k : ℕ). 0 < k) (sym t.epoch_length) c.long;
    }

same_time : (v : World) → IsSameTime v v
same_time v = record { epoch = refl; slot = refl; epoch_length = refl; counted = refl; frozen = refl }

not_at_most : (a b : ℕ) → nat_le a b ≡ false → b < a
not_at_most a b h = leb-false a b h

at_least : (n s p : ℕ) → n ≤ s → n ≤ s + p
at_least n s p l = omega arith

pub min_right : (n s : ℕ) → s < n → min n s ≡ s
min_right n s l = let at_most : s ≤ n = omega (arith, l) in min-eq_right at_most

min_zero : (n : ℕ) → 0 ≡ min n 0
min_zero n = let at_most : 0 ≤ n = omega arith in sym (min-eq_right at_most)

min_add : (n s p : ℕ) → min n (min n s + p) ≡ min n (s + p)
min_add n s p = elim (nat_le n s) as (λ b. nat_le n s ≡ b → min n (min n s + p) ≡ min n (s + p)) [
  | true ↦ λ e. let l : n ≤ s = leb-true n s e in ap (λ (k : ℕ). min n (k + p)) (min-eq_left l) ∙ min-eq_left (at_least n n p l_self) ∙ sym (min-eq_left (at_least n s p l))
  | false ↦ λ e. ap (λ (k : ℕ). min n (k + p)) (min_right n s (not_at_most n s e))
] refl
  where
    l_self : n ≤ n
    l_self = omega arith

pub later_epoch : (a b k : ℕ) → 0 < k → a ≤ b → a / k ≤ b / k
later_epoch a b k h l = le-div (a / k) b k h (omega (arith, div-mul-le_self a k, l))

pub not_equal : (n m : ℕ) → (n == m) ≡ false → n ≡ m → ⊥
not_equal n m h e = let yes : (n == m) ≡ true = eq-eqb n m e in let both : false ≡ true = sym h ∙ yes in cc

block_by : (b : Bool) (rs : List Record) (v : World) (slot pulse : ℕ) → IsCounting rs v → enters_next v.ledger slot ≡ b → v.ledger.slot < slot → epoch_at v.ledger slot ≤ v.ledger.epoch + 1
    → IsCounting (rs ++ records.Block slot pulse ∷ []) (pulsed slot pulse (crossed b v))
block_by false rs v slot pulse c e after within =
    let w : World = pulsed slot pulse v in
    let least : v.ledger.epoch ≤ epoch_at v.ledger slot = subst (λ (n : ℕ). n ≤ epoch_at v.ledger slot) (sym c.clock) (later_epoch v.ledger.slot slot v.ledger.epoch_length c.long (omega (arith, after))) in
    let here : epoch_at v.ledger slot ≡ v.ledger.epoch = omega (arith, least, within, not_equal (epoch_at v.ledger slot) (v.ledger.epoch + 1) e) in
    let one : added (pulse_in w (records.Block slot pulse)) ≡ pulse = ap (λ (b : Bool). added (cond b (Some pulse) None)) (eq-eqb (epoch_at v.ledger slot) v.ledger.epoch here) in
    record {
      counted = ap (λ (n : ℕ). min (entry_count v.frozen) (n + pulse)) c.counted ∙ min_add (entry_count v.frozen) (pulses v rs) pulse
          ∙ ap (λ (k : ℕ). min (entry_count v.frozen) k) (let sums : pulses v rs + pulse ≡ pulses w (rs ++ records.Block slot pulse ∷ []) = omega (arith, same_pulses v w rs refl refl, pulses-append w rs (records.Block slot pulse), one) in sums);
      bounded = all_append (IsUpTo w) rs (records.Block slot pulse ∷ []) (all_later v w rs (omega arith) refl c.bounded) (omega (arith, here), tt);
      clock = sym here;
      long = c.long;
    }
block_by true rs v slot pulse c e after within =
    let w : World = pulsed slot pulse (world_after_boundary v) in
    let next : w.ledger.epoch ≡ v.ledger.epoch + 1 = boundary_epoch v in
    let long : w.ledger.epoch_length ≡ v.ledger.epoch_length = boundary_length v in
    let at : epoch_at v.ledger slot ≡ v.ledger.epoch + 1 = eqb-true (epoch_at v.ledger slot) (v.ledger.epoch + 1) e in
    let here : epoch_at w.ledger slot ≡ w.ledger.epoch = ap (λ (n : ℕ). slot / n) long ∙ at ∙ sym next in
    let one : added (pulse_in w (records.Block slot pulse)) ≡ pulse = ap (λ (b : Bool). added (cond b (Some pulse) None)) (eq-eqb (epoch_at w.ledger slot) w.ledger.epoch here) in
    record {
      counted = ap (λ (k : ℕ). min (entry_count w.frozen) k) (let sums : 0 + pulse ≡ pulses w (rs ++ records.Block slot pulse ∷ []) = omega (arith, none_now v w rs c.bounded next long, pulses-append w rs (records.Block slot pulse), one) in sums);
      bounded = all_append (IsUpTo w) rs (records.Block slot pulse ∷ []) (all_later v w rs (omega (arith, next)) long c.bounded) (omega (arith, here), tt);
      clock = sym here;
      long = subst (λ (k : ℕ). 0 < k) (sym long) c.long;
    }

accepted_counting : (rs : List Record) (v : World) (r : Record) → IsGood v → IsCounting rs v → refusal_of v r ≡ None → IsCounting (rs ++ r ∷ []) (world_after_accepted v r)
accepted_counting rs v (records.Genesis g) good c e = cc
accepted_counting rs v (records.Block slot pulse) good c e =
    let all : IsUnbroken (block_checks v.ledger slot pulse) = record { none = e } in
    let a = unbroken-cons _ _ all in
    let b = unbroken-cons _ _ a.1 in
    block_by (enters_next v.ledger slot) rs v slot pulse c refl (not_at_most slot v.ledger.slot a.0) (ltb-false (v.ledger.epoch + 1) (epoch_at v.ledger slot) b.0)
accepted_counting rs v (records.Rewards u) good c e = add_other rs (records.Rewards u) v (world_after_accepted v (records.Rewards u)) c (record { epoch = refl; slot = refl; epoch_length = refl; counted = refl; frozen = refl }) refl tt
accepted_counting rs v (records.Tx tx) good c e = add_other rs (records.Tx tx) v (world_after_accepted v (records.Tx tx)) c (tx_time v tx good) refl tt
accepted_counting rs v (records.Print what) good c e = add_other rs (records.Print what) v v c (same_time v) refl tt

abbrev IsCountedAt : List Record → World → Type 0
IsCountedAt rs w = w.counted ≡ min (entry_count w.frozen) (pulses w rs)

next_by : (o : Option Rule) (rs : List Record) (r : Record) (more : List Record) (v : World) → refusal_of v r ≡ o → IsGood v → IsCounting rs v
    → (IsCounting rs v → IsCountedAt (rs ++ accepted_records v more) (world_after_all v more))
    → (refusal_of v r ≡ None → IsCounting (rs ++ r ∷ []) (world_after_accepted v r) → IsCountedAt ((rs ++ r ∷ []) ++ accepted_records (world_after_accepted v r) more) (world_after_all (world_after_accepted v r) more))
    → IsCountedAt (rs ++ cond (is_none o) (r ∷ accepted_records (step_by o v r).0 more) (accepted_records v more)) (world_after_all (step_by o v r).0 more)
next_by (Some rule) rs r more v e g c refused accepted = refused c
next_by None rs r more v e g c refused accepted =
    subst (λ (list : List Record). IsCountedAt list (world_after_all (world_after_accepted v r) more)) (append_assoc rs (r ∷ []) (accepted_records (world_after_accepted v r) more)) (accepted e (accepted_counting rs v r g c e))

count_along : (more rs : List Record) (v : World) → IsGood v → IsCounting rs v → list_all is_within_limits more ≡ true → IsCountedAt (rs ++ accepted_records v more) (world_after_all v more)
count_along [] rs v g c h = subst (λ (list : List Record). IsCountedAt list v) (sym (append-nil rs)) c.counted
count_along (r ∷ more) rs v g c h =
    let here : is_within_limits r ≡ true = left_of _ _ h in
    let rest : list_all is_within_limits more ≡ true = right_of _ _ h in
    next_by (refusal_of v r) rs r more v refl g c (λ d. count_along more rs v g d rest) (λ e d. count_along more (rs ++ r ∷ []) (world_after_accepted v r) (accepted_good v r g here e) d rest)

pub counted_is_the_pulses : CountedIsThePulses
counted_is_the_pulses g h f rs r =
    count_along rs [] (world_of_genesis g) (genesis_good g) (record { counted = min_zero (entry_count (world_of_genesis g).frozen); bounded = tt; clock = refl; long = (genesis_parts g h).long }) r

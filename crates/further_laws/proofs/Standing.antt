-- Runs of accepted records: which World they leave, that its epoch is that of its slot, and what stays while the epoch stays.
use Rattle.std.proofs.Common.{◌≡◌, ℕ, ◌+◌, ◌/◌, ◌<◌, ◌≤◌, List, [], ◌∷◌, ◌++◌, Bool, true, false, cond, ◌||◌, Option, Some, None, refl, ap, sym, subst, ◌∙◌, arith}
use Rattle.std.specs.List.{list_all, list_any}
use Rattle.std.proofs.lemmas.Bool.{and_from, false≢true, eqb-true, ltb-false, leb-false}
use Rattle.tx_records.proofs.Parts.{genesis_parts}
use Rattle.tx_records.specs.declared.genesis.Genesis.{Genesis}
use Rattle.tx_records.specs.declared.record.Record.{Record}
use Rattle.tx_records.specs.declared.record.Record.TheVariants as records
use Rattle.tx_records.specs.declared.reply.Rule.{Rule}
use Rattle.tx_records.specs.GenesisLimits as genesis_limits
use Rattle.tx_records.specs.RecordLimits.{is_within_limits}
use Rattle.ledger_model.specs.Ledger.{Ledger}
use Rattle.ledger_model.proofs.Unbroken.{IsUnbroken, unbroken-cons}
use Rattle.run_model.specs.World.{World}
use Rattle.run_model.specs.Boundary.{world_after_boundary}
use Rattle.run_model.specs.Genesis.{world_of_genesis}
use Rattle.run_model.specs.Runs.{world_after_all}
use Rattle.run_model.specs.Step.{block_checks, crossed, enters_next, epoch_at, pulsed, refusal_of, step, step_by, world_after_accepted}
use Rattle.dormant_laws.proofs.Lists.{left_of, right_of}
use Rattle.tx_balance.proofs.Sounds.{tx_steady}
use Rattle.run_laws.proofs.Counted.{later_epoch, not_equal}
use Rattle.run_laws.proofs.Good.{IsGood}
use Rattle.run_laws.proofs.GoodBlock.{boundary_epoch, boundary_length}
use Rattle.run_laws.proofs.Reach.{accepted_good, record_good}
use Rattle.follow_model.specs.Chain.{is_block_of, up_to_block}

-- each record is accepted at its place
abbrev pub Stand : World → List Record → Type 0
Stand w [] = Unit {0}
Stand w (r ∷ rs) = (refusal_of w r ≡ None) × Stand (world_after_accepted w r) rs

pub accepted_is : (w : World) (r : Record) → refusal_of w r ≡ None → (step w r).0 ≡ world_after_accepted w r
accepted_is w r e = ap (λ (o : Option Rule). (step_by o w r).0) e

pub after_first : (w : World) (r : Record) (rs : List Record) → refusal_of w r ≡ None → world_after_all w (r ∷ rs) ≡ world_after_all (world_after_accepted w r) rs
after_first w r rs e = ap (λ (v : World). world_after_all v rs) (accepted_is w r e)

pub stand_more : (w : World) (rs : List Record) (r : Record) → Stand w rs → refusal_of (world_after_all w rs) r ≡ None → Stand w (rs ++ r ∷ [])
stand_more w [] r h e = (e, tt)
stand_more w (x ∷ xs) r h e =
    (h.0, stand_more (world_after_accepted w x) xs r h.1 (subst (λ (v : World). refusal_of v r ≡ None) (after_first w x xs h.0) e))

stand_by : (b : Bool) (slot : ℕ) (w : World) (rs : List Record) → Stand w rs → Stand w (up_to_block slot rs) → Stand w (cond b [] (up_to_block slot rs))
stand_by true slot w rs h k = tt
stand_by false slot w rs h k = k

pub stand_front : (slot : ℕ) (w : World) (rs : List Record) → Stand w rs → Stand w (up_to_block slot rs)
stand_front slot w [] h = tt
stand_front slot w (r ∷ rs) h = (h.0, stand_by (is_block_of slot r) slot (world_after_accepted w r) rs h.1 (stand_front slot (world_after_accepted w r) rs h.1))

all_by : (b : Bool) (slot : ℕ) (rs : List Record) → list_all is_within_limits (up_to_block slot rs) ≡ true → list_all is_within_limits (cond b [] (up_to_block slot rs)) ≡ true
all_by true slot rs k = refl
all_by false slot rs k = k

pub all_front : (slot : ℕ) (rs : List Record) → list_all is_within_limits rs ≡ true → list_all is_within_limits (up_to_block slot rs) ≡ true
all_front slot [] h = refl
all_front slot (r ∷ rs) h = and_from (is_within_limits r) _ (left_of _ _ h) (all_by (is_block_of slot r) slot rs (all_front slot rs (right_of _ _ h)))

-- ---- the clock, and what stays while the epoch stays

-- the epoch is that of the slot
pub record IsTimed (w : World) : Type 0 where
  pub clock : w.ledger.epoch ≡ w.ledger.slot / w.ledger.epoch_length
  pub long : 0 < w.ledger.epoch_length

-- what a later World keeps of an earlier one
pub record Goes (v w : World) : Type 0 where
  pub epoch : v.ledger.epoch ≤ w.ledger.epoch
  pub length : w.ledger.epoch_length ≡ v.ledger.epoch_length
  pub frozen : w.ledger.epoch ≡ v.ledger.epoch → w.frozen ≡ v.frozen

goes_same : (v w : World) → w.ledger.epoch ≡ v.ledger.epoch → w.ledger.epoch_length ≡ v.ledger.epoch_length → w.frozen ≡ v.frozen → Goes v w
goes_same v w e l f = record { epoch = omega (arith, e); length = l; frozen = λ same. f }

goes_on : (u v w : World) → Goes u v → Goes v w → Goes u w
goes_on u v w g h = record {
  epoch = omega (arith, g.epoch, h.epoch);
  length = h.length ∙ g.length;
  frozen = λ same.
      let second : w.ledger.epoch ≡ v.ledger.epoch = omega (arith, g.epoch, h.epoch, same) in
      let first : v.ledger.epoch ≡ u.ledger.epoch = omega (arith, g.epoch, h.epoch, same) in
      h.frozen second ∙ g.frozen first;
}

goes_next : (v w : World) → w.ledger.epoch ≡ v.ledger.epoch + 1 → w.ledger.epoch_length ≡ v.ledger.epoch_length → Goes v w
goes_next v w e l = record { epoch = omega (arith, e); length = l; frozen = λ same. absurd (omega (arith, e, same)) }

goes_block : (b : Bool) (w : World) (slot pulse : ℕ) → Goes w (pulsed slot pulse (crossed b w))
goes_block true w slot pulse = goes_next w (pulsed slot pulse (world_after_boundary w)) (boundary_epoch w) (boundary_length w)
goes_block false w slot pulse = goes_same w (pulsed slot pulse w) refl refl refl

pub goes_accepted : (w : World) (r : Record) → IsGood w → Goes w (world_after_accepted w r)
goes_accepted w (records.Genesis g) good = goes_same w w refl refl refl
goes_accepted w (records.Block slot pulse) good = goes_block (enters_next w.ledger slot) w slot pulse
goes_accepted w (records.Rewards u) good = goes_same w (world_after_accepted w (records.Rewards u)) refl refl refl
goes_accepted w (records.Tx tx) good =
    let s = (tx_steady w.ledger tx good.ledger.sound).only in
    goes_same w (world_after_accepted w (records.Tx tx)) (ap (λ (l : Ledger). l.epoch) (sym s)) (ap (λ (l : Ledger). l.epoch_length) (sym s)) refl
goes_accepted w (records.Print what) good = goes_same w w refl refl refl

timed_block : (b : Bool) (w : World) (slot pulse : ℕ) → IsTimed w → enters_next w.ledger slot ≡ b → w.ledger.slot < slot → epoch_at w.ledger slot ≤ w.ledger.epoch + 1
    → IsTimed (pulsed slot pulse (crossed b w))
timed_block false w slot pulse t e after within =
    let least : w.ledger.epoch ≤ epoch_at w.ledger slot = subst (λ (n : ℕ). n ≤ epoch_at w.ledger slot) (sym t.clock) (later_epoch w.ledger.slot slot w.ledger.epoch_length t.long (omega (arith, after))) in
    record { clock = omega (arith, least, within, not_equal (epoch_at w.ledger slot) (w.ledger.epoch + 1) e); long = t.long }
timed_block true w slot pulse t e after within =
    let long : (world_after_boundary w).ledger.epoch_length ≡ w.ledger.epoch_length = boundary_length w in
    let at : epoch_at w.ledger slot ≡ w.ledger.epoch + 1 = eqb-true (epoch_at w.ledger slot) (w.ledger.epoch + 1) e in
    record {
      clock = boundary_epoch w ∙ sym at ∙ ap (λ (n : ℕ). slot / n) (sym long);
      long = subst (λ (k : ℕ). 0 < k) (sym long) t.long;
    }

timed_same : (v w : World) → IsTimed v → w.ledger.epoch ≡ v.ledger.epoch → w.ledger.slot ≡ v.ledger.slot → w.ledger.epoch_length ≡ v.ledger.epoch_length → IsTimed w
timed_same v w t e s l = record {
  clock = e ∙ t.clock ∙ ap (λ (k : ℕ). k / v.ledger.epoch_length) (sym s) ∙ ap (λ (k : ℕ). w.ledger.slot / k) (sym l);
  long = subst (λ (k : ℕ). 0 < k) (sym l) t.long;
}

pub timed_accepted : (w : World) (r : Record) → IsGood w → IsTimed w → refusal_of w r ≡ None → IsTimed (world_after_accepted w r)
timed_accepted w (records.Genesis g) good t e = t
timed_accepted w (records.Block slot pulse) good t e =
    let all : IsUnbroken (block_checks w.ledger slot pulse) = record { none = e } in
    let a = unbroken-cons _ _ all in
    let b = unbroken-cons _ _ a.1 in
    timed_block (enters_next w.ledger slot) w slot pulse t refl (leb-false slot w.ledger.slot a.0) (ltb-false (w.ledger.epoch + 1) (epoch_at w.ledger slot) b.0)
timed_accepted w (records.Rewards u) good t e = timed_same w (world_after_accepted w (records.Rewards u)) t refl refl refl
timed_accepted w (records.Tx tx) good t e =
    let s = (tx_steady w.ledger tx good.ledger.sound).only in
    timed_same w (world_after_accepted w (records.Tx tx)) t (ap (λ (l : Ledger). l.epoch) (sym s)) (ap (λ (l : Ledger). l.slot) (sym s)) (ap (λ (l : Ledger). l.epoch_length) (sym s))
timed_accepted w (records.Print what) good t e = t

timed_step : (o : Option Rule) (w : World) (r : Record) → IsGood w → IsTimed w → refusal_of w r ≡ o → IsTimed (step_by o w r).0
timed_step (Some rule) w r good t e = t
timed_step None w r good t e = timed_accepted w r good t e

-- after any records
pub timed_all : (rs : List Record) (w : World) → IsGood w → IsTimed w → list_all is_within_limits rs ≡ true → IsTimed (world_after_all w rs)
timed_all [] w good t h = t
timed_all (r ∷ rs) w good t h =
    let here : is_within_limits r ≡ true = left_of _ _ h in
    timed_all rs (step w r).0 (record_good w r good here) (timed_step (refusal_of w r) w r good t refl) (right_of _ _ h)

pub good_all : (rs : List Record) (w : World) → IsGood w → list_all is_within_limits rs ≡ true → IsGood (world_after_all w rs)
good_all [] w good h = good
good_all (r ∷ rs) w good h = good_all rs (step w r).0 (record_good w r good (left_of _ _ h)) (right_of _ _ h)

-- after accepted records
pub goes_all : (rs : List Record) (w : World) → IsGood w → list_all is_within_limits rs ≡ true → Stand w rs → Goes w (world_after_all w rs)
goes_all [] w good h s = goes_same w w refl refl refl
goes_all (r ∷ rs) w good h s =
    let v : World = world_after_accepted w r in
    let later : Goes v (world_after_all v rs) = goes_all rs v (accepted_good w r good (left_of _ _ h) s.0) (right_of _ _ h) s.1 in
    subst (λ (u : World). Goes w u) (sym (after_first w r rs s.0)) (goes_on w v (world_after_all v rs) (goes_accepted w r good) later)

pub genesis_timed : (g : Genesis) → genesis_limits.is_within_limits g ≡ true → IsTimed (world_of_genesis g)
genesis_timed g h = record { clock = refl; long = (genesis_parts g h).long }

-- ---- the parts of a run

-- the records after the block of a slot
abbrev pub past_block : ℕ → List Record → List Record
past_block slot [] = []
past_block slot (r ∷ rs) = cond (is_block_of slot r) rs (past_block slot rs)

parted_by : (b : Bool) (slot : ℕ) (r : Record) (rs : List Record) → rs ≡ up_to_block slot rs ++ past_block slot rs
    → r ∷ rs ≡ r ∷ cond b [] (up_to_block slot rs) ++ cond b rs (past_block slot rs)
parted_by true slot r rs e = refl
parted_by false slot r rs e = ap (λ (xs : List Record). r ∷ xs) e

pub parted : (slot : ℕ) (rs : List Record) → rs ≡ up_to_block slot rs ++ past_block slot rs
parted slot [] = refl
parted slot (r ∷ rs) = parted_by (is_block_of slot r) slot r rs (parted slot rs)

pub stand_past : (w : World) (xs ys : List Record) → Stand w (xs ++ ys) → Stand (world_after_all w xs) ys
stand_past w [] ys h = h
stand_past w (x ∷ xs) ys h = subst (λ (v : World). Stand v ys) (sym (after_first w x xs h.0)) (stand_past (world_after_accepted w x) xs ys h.1)

-- a block that remains leaves its slot
slot_of : (w : World) (slot : ℕ) (r : Record) → is_block_of slot r ≡ true → (world_after_accepted w r).ledger.slot ≡ slot
slot_of w slot (records.Genesis g) e = absurd (false≢true e)
slot_of w slot (records.Block s pulse) e = eqb-true s slot e
slot_of w slot (records.Rewards u) e = absurd (false≢true e)
slot_of w slot (records.Tx tx) e = absurd (false≢true e)
slot_of w slot (records.Print what) e = absurd (false≢true e)

slot_by : (b : Bool) (slot : ℕ) (w : World) (r : Record) (rs : List Record) → is_block_of slot r ≡ b → (b || list_any (is_block_of slot) rs) ≡ true → refusal_of w r ≡ None
    → (list_any (is_block_of slot) rs ≡ true → (world_after_all (world_after_accepted w r) (up_to_block slot rs)).ledger.slot ≡ slot)
    → (world_after_all w (r ∷ cond b [] (up_to_block slot rs))).ledger.slot ≡ slot
slot_by true slot w r rs e h none later = ap (λ (v : World). v.ledger.slot) (accepted_is w r none) ∙ slot_of w slot r e
slot_by false slot w r rs e h none later = ap (λ (v : World). v.ledger.slot) (after_first w r (up_to_block slot rs) none) ∙ later h

pub slot_of_front : (slot : ℕ) (rs : List Record) (w : World) → list_any (is_block_of slot) rs ≡ true → Stand w rs → (world_after_all w (up_to_block slot rs)).ledger.slot ≡ slot
slot_of_front slot [] w h s = absurd (false≢true h)
slot_of_front slot (r ∷ rs) w h s =
    slot_by (is_block_of slot r) slot w r rs refl h s.0 (λ k. slot_of_front slot rs (world_after_accepted w r) k s.1)

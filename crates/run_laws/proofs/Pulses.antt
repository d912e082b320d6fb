-- Worlds that differ only in the count give the same replies and stay so: pulses do not show.
use Rattle.std.proofs.Common.{◌≡◌, ℕ, ◌+◌, ◌==◌, ◌<◌, List, [], ◌∷◌, Bool, true, false, Option, Some, None, nat_le, nat_lt, ◌⊎◌, inl, inr, subst, refl, ap, sym, arith, ◌∙◌}
use Rattle.std.specs.List.{AllZip}
use Rattle.std.proofs.lemmas.Bool.{eqb-true}
use Rattle.tx_records.specs.declared.record.Record.{Record}
use Rattle.tx_records.specs.declared.record.Record.TheVariants as records
use Rattle.tx_records.specs.declared.reply.Reply.{Reply}
use Rattle.tx_records.specs.declared.reply.Rule.{Rule}
use Rattle.tx_records.specs.declared.rules.TheConstants.{SLOT_NOT_LATER, EPOCH_SKIPPED, ZERO_PULSE}
use Rattle.ledger_model.specs.Checks.{breaks, breaks_keeping, first_among}
use Rattle.run_model.specs.World.{World}
use Rattle.run_model.specs.Genesis.{world_of_genesis}
use Rattle.run_model.specs.Laws.{IsSameButPulse, PulsesDoNotShow}
use Rattle.run_model.specs.Runs.{replies_of, world_after_all}
use Rattle.run_model.specs.Step.{crossed, enters_next, epoch_at, pulsed, refusal_of, step, step_by, world_after_accepted}

-- the World, with n counted
abbrev counting : ℕ → World → World
counting n w = record w { counted = n }

-- the first is the second except what was counted
abbrev IsSameBut : World → World → Type 0
IsSameBut v w = v ≡ counting v.counted w

-- the same reply, and the same World except what was counted
abbrev AreAlike : World × Reply → World × Reply → Type 0
AreAlike a b = (a.1 ≡ b.1) × IsSameBut a.0 b.0

by_rule : (n : ℕ) (o : Option Rule) (w : World) (r : Record) → IsSameBut (world_after_accepted (counting n w) r) (world_after_accepted w r) → AreAlike (step_by o (counting n w) r) (step_by o w r)
by_rule n (Some rule) w r h = (refl, refl)
by_rule n None w r h = (refl, h)

-- two blocks of a slot
crossed_same : (n : ℕ) (b : Bool) (slot pulse pulse' : ℕ) (w : World) → IsSameBut (pulsed slot pulse (crossed b (counting n w))) (pulsed slot pulse' (crossed b w))
crossed_same n true slot pulse pulse' w = refl
crossed_same n false slot pulse pulse' w = refl

blocks_by : (n : ℕ) (o : Option Rule) (w : World) (slot pulse pulse' : ℕ) → AreAlike (step_by o (counting n w) (records.Block slot pulse)) (step_by o w (records.Block slot pulse'))
blocks_by n (Some rule) w slot pulse pulse' = (refl, refl)
blocks_by n None w slot pulse pulse' = (refl, crossed_same n (enters_next w.ledger slot) slot pulse pulse' w)

same_blocks : (n : ℕ) (w : World) (slot pulse pulse' : ℕ) → (pulse == 0) ≡ (pulse' == 0) → AreAlike (step (counting n w) (records.Block slot pulse)) (step w (records.Block slot pulse'))
same_blocks n w slot pulse pulse' h =
    let refused : refusal_of w (records.Block slot pulse) ≡ refusal_of w (records.Block slot pulse') =
    ap (λ (z : Bool). first_among (
    breaks_keeping SLOT_NOT_LATER w.ledger.slot (nat_le slot w.ledger.slot) ∷
    breaks_keeping EPOCH_SKIPPED w.ledger.epoch (nat_lt (w.ledger.epoch + 1) (epoch_at w.ledger slot)) ∷
    breaks ZERO_PULSE z ∷
    [])) h in
    subst (λ (o : Option Rule). AreAlike (step_by o (counting n w) (records.Block slot pulse)) (step w (records.Block slot pulse'))) (sym refused)
    (blocks_by n (refusal_of w (records.Block slot pulse')) w slot pulse pulse')

same_record : (n : ℕ) (w : World) (r : Record) → AreAlike (step (counting n w) r) (step w r)
same_record n w (records.Genesis g) = (refl, refl)
same_record n w (records.Block slot pulse) = same_blocks n w slot pulse pulse refl
same_record n w (records.Rewards u) = by_rule n (refusal_of w (records.Rewards u)) w (records.Rewards u) refl
same_record n w (records.Tx tx) = by_rule n (refusal_of w (records.Tx tx)) w (records.Tx tx) refl
same_record n w (records.Print what) = (refl, refl)

-- positive pulses are refused alike
not_zero : (b : Bool) (n : ℕ) → 0 < n → (n == 0) ≡ b → b ≡ false
not_zero true n h e = absurd (omega (arith, h, eqb-true n 0 e))
not_zero false n h e = refl

pub zero_same : (p q : ℕ) → (p ≡ q) ⊎ ((0 < p) × (0 < q)) → (p == 0) ≡ (q == 0)
zero_same p q (inl e) = ap (λ n. n == 0) e
zero_same p q (inr both) = not_zero (p == 0) p both.0 refl ∙ sym (not_zero (q == 0) q both.1 refl)

from_same : (n : ℕ) (w : World) (r s : Record) → r ≡ s → AreAlike (step (counting n w) r) (step w s)
from_same n w r s e = subst (λ (q : Record). AreAlike (step (counting n w) r) (step w q)) e (same_record n w r)

alike : (n : ℕ) (w : World) (r s : Record) → IsSameButPulse r s → AreAlike (step (counting n w) r) (step w s)
alike n w (records.Block slot pulse) (records.Block slot' pulse') h =
    subst (λ (t : ℕ). AreAlike (step (counting n w) (records.Block slot pulse)) (step w (records.Block t pulse'))) h.0 (same_blocks n w slot pulse pulse' (zero_same pulse pulse' h.1))
alike n w (records.Block slot pulse) (records.Genesis g) h = from_same n w _ _ h
alike n w (records.Block slot pulse) (records.Rewards u) h = from_same n w _ _ h
alike n w (records.Block slot pulse) (records.Tx tx) h = from_same n w _ _ h
alike n w (records.Block slot pulse) (records.Print what) h = from_same n w _ _ h
alike n w (records.Genesis g) s h = from_same n w _ _ h
alike n w (records.Rewards u) s h = from_same n w _ _ h
alike n w (records.Tx tx) s h = from_same n w _ _ h
alike n w (records.Print what) s h = from_same n w _ _ h

-- whole runs
runs_alike : (rs ss : List Record) (n : ℕ) (w : World) → AllZip IsSameButPulse rs ss
    → (replies_of (counting n w) rs ≡ replies_of w ss) × IsSameBut (world_after_all (counting n w) rs) (world_after_all w ss)
runs_alike [] [] n w h = (refl, refl)
runs_alike [] (s ∷ ss) n w h = absurd h
runs_alike (r ∷ rs) [] n w h = absurd h
runs_alike (r ∷ rs) (s ∷ ss) n w h =
    let one : AreAlike (step (counting n w) r) (step w s) = alike n w r s h.0 in
    let v : World = (step (counting n w) r).0 in
    let later = runs_alike rs ss v.counted (step w s).0 h.1 in (
      ap (λ (reply : Reply). reply ∷ replies_of v rs) one.0
          ∙ ap (λ (u : World). (step w s).1 ∷ replies_of u rs) one.1
          ∙ ap (λ (replies : List Reply). (step w s).1 ∷ replies) later.0,
      subst (λ (u : World). IsSameBut (world_after_all u rs) (world_after_all (step w s).0 ss)) (sym one.1) later.1,
    )

pub pulses_do_not_show : PulsesDoNotShow
pulses_do_not_show g h k rs ss readable same = runs_alike rs ss (world_of_genesis g).counted (world_of_genesis g) same

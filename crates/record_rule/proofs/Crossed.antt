-- A block of the next epoch, applied after the boundary, leaves what it leaves of the World before.
use Rattle.std.proofs.Common.{◌≡◌, ℕ, ◌+◌, ◌/◌, ◌==◌, [], ◌∷◌, Bool, true, false, Option, Some, None, nat_le, nat_lt, refl, ap, sym, ◌∙◌, arith}
use Rattle.std.proofs.lemmas.Bool.{eqb-true, le-ltb, ne_eqb}
use Rattle.ledger_model.specs.Checks.{breaks, breaks_keeping, first_among}
use Rattle.ledger_model.specs.Ledger.{Ledger}
use Rattle.ledger_model.specs.Transaction.{tx_step, tx_step_by}
use Rattle.ledger_model.specs.Broken.{first_broken}
use Rattle.epoch_rule.proofs.proofs_of_ledger_state.Steps.{block_stays, step_accepted}
use Rattle.epoch_rule.proofs.proofs_of_run_laws.GoodBlock.{boundary_epoch, boundary_length, update_only}
use Rattle.record_rule.specs.Reports.{report_by}
use Rattle.run_model.specs.Boundary.{world_after_boundary}
use Rattle.run_model.specs.Step.{block_checks, crossed, enters_next, epoch_at, pulsed, step, step_by, world_after_block}
use Rattle.run_model.specs.World.{World, on_ledger}
use Rattle.tx_records.specs.declared.record.Record.TheVariants as records
use Rattle.tx_records.specs.declared.reply.Reply.{Reply}
use Rattle.tx_records.specs.declared.reply.Reply.TheVariants.{Accepted}
use Rattle.tx_records.specs.declared.reply.Rule.{Rule}
use Rattle.tx_records.specs.declared.rules.TheConstants.{EPOCH_SKIPPED, SLOT_NOT_LATER, ZERO_PULSE}
use Rattle.tx_records.specs.declared.tx.Tx.{Tx}

-- ---- a transaction

world_by : (found : Option Rule) (w : World) (tx : Tx) → (record w { ledger = (tx_step_by found w.ledger tx).0 }, (tx_step_by found w.ledger tx).1) ≡ step_by found w (records.Tx tx)
world_by (Some rule) w tx = refl
world_by None w tx = refl

pub tx_stepped : (w : World) (tx : Tx) (after : World) (reply : Reply) → after ≡ on_ledger (λ l. (tx_step l tx).0) w → reply ≡ (tx_step w.ledger tx).1 → (after, reply) ≡ step w (records.Tx tx)
tx_stepped w tx after reply is says =
    ap (λ (x : World). (x, reply)) is
    ∙ ap (λ (x : Reply). (on_ledger (λ l. (tx_step l tx).0) w, x)) says
    ∙ world_by (first_broken w.ledger tx) w tx

-- it crosses no boundary
pub tx_reports : (found : Option Rule) (w : World) (tx : Tx) → None ≡ report_by found w (records.Tx tx)
tx_reports (Some rule) w tx = refl
tx_reports None w tx = refl

-- ---- the rules on a block, after the boundary of its epoch

flags : (later skipped zero : Bool) (n m : ℕ) → first_among (breaks_keeping SLOT_NOT_LATER n later ∷ breaks_keeping EPOCH_SKIPPED m skipped ∷ breaks ZERO_PULSE zero ∷ []) ≡ None
    → (later ≡ false) × (zero ≡ false)
flags true skipped zero n m h = cc
flags false true zero n m h = cc
flags false false true n m h = cc
flags false false false n m h = (refl, refl)

unbroken : (later skipped zero : Bool) (n m : ℕ) → later ≡ false → skipped ≡ false → zero ≡ false
    → first_among (breaks_keeping SLOT_NOT_LATER n later ∷ breaks_keeping EPOCH_SKIPPED m skipped ∷ breaks ZERO_PULSE zero ∷ []) ≡ None
unbroken true skipped zero n m a b d = cc
unbroken false true zero n m a b d = cc
unbroken false false true n m a b d = cc
unbroken false false false n m a b d = refl

-- the ledger is of the epoch of this slot
pub record IsJustBegun (l m : Ledger) (slot : ℕ) : Type 0 where
  pub slot_stays : m.slot ≡ l.slot
  pub is_of : epoch_at m slot ≡ m.epoch

begun_flags : (l m : Ledger) (slot pulse : ℕ) → IsJustBegun l m slot → first_among (block_checks l slot pulse) ≡ None → first_among (block_checks m slot pulse) ≡ None
begun_flags l m slot pulse begun none =
    let f = flags (nat_le slot l.slot) (nat_lt (l.epoch + 1) (epoch_at l slot)) (pulse == 0) l.slot l.epoch none in
    unbroken (nat_le slot m.slot) (nat_lt (m.epoch + 1) (epoch_at m slot)) (pulse == 0) m.slot m.epoch
    (ap (λ (n : ℕ). nat_le slot n) begun.slot_stays ∙ f.0)
    (le-ltb (m.epoch + 1) (epoch_at m slot) (omega (arith, begun.is_of)))
    f.1

begun_stays : (l m : Ledger) (slot : ℕ) → IsJustBegun l m slot → enters_next m slot ≡ false
begun_stays l m slot begun = ne_eqb (epoch_at m slot) (m.epoch + 1) (λ e. omega (arith, begun.is_of, e))

just_begun : (w : World) (slot : ℕ) → enters_next w.ledger slot ≡ true → IsJustBegun w.ledger (world_after_boundary w).ledger slot
just_begun w slot enters = record {
  slot_stays = ap (λ (l : Ledger). l.slot) (sym (update_only w.pending w.ledger));
  is_of = ap (λ (n : ℕ). slot / n) (boundary_length w) ∙ eqb-true (epoch_at w.ledger slot) (w.ledger.epoch + 1) enters ∙ sym (boundary_epoch w);
}

-- the block begins no epoch then
pub stays_after : (w v : World) (slot : ℕ) → v ≡ world_after_boundary w → enters_next w.ledger slot ≡ true → enters_next v.ledger slot ≡ false
stays_after w v slot is enters =
    ap (λ (x : World). enters_next x.ledger slot) is ∙ begun_stays w.ledger (world_after_boundary w).ledger slot (just_begun w slot enters)

-- and breaks no rule
none_after : (w v : World) (slot pulse : ℕ) → v ≡ world_after_boundary w → enters_next w.ledger slot ≡ true → first_among (block_checks w.ledger slot pulse) ≡ None
    → first_among (block_checks v.ledger slot pulse) ≡ None
none_after w v slot pulse is enters none =
    ap (λ (x : World). first_among (block_checks x.ledger slot pulse)) is
    ∙ begun_flags w.ledger (world_after_boundary w).ledger slot pulse (just_begun w slot enters) none

-- ---- what it leaves

left_after : (w v : World) (slot pulse : ℕ) → enters_next v.ledger slot ≡ false → v ≡ world_after_boundary w → enters_next w.ledger slot ≡ true
    → world_after_block v slot pulse ≡ world_after_block w slot pulse
left_after w v slot pulse stays is enters =
    block_stays v slot pulse stays
    ∙ ap (λ (x : World). pulsed slot pulse x) is
    ∙ sym (ap (λ (b : Bool). pulsed slot pulse (crossed b w)) enters)

pub first_stepped : (w v : World) (slot pulse : ℕ) (p : World × Reply) → v ≡ world_after_boundary w → p ≡ step v (records.Block slot pulse)
    → first_among (block_checks w.ledger slot pulse) ≡ None → enters_next w.ledger slot ≡ true → p ≡ step w (records.Block slot pulse)
first_stepped w v slot pulse p is stepped none enters =
    stepped
    ∙ step_accepted v (records.Block slot pulse) (none_after w v slot pulse is enters none)
    ∙ ap (λ (x : World). (x, Accepted)) (left_after w v slot pulse (stays_after w v slot is enters) is enters)
    ∙ sym (step_accepted w (records.Block slot pulse) none)

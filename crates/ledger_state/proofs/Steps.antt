-- A sound World stays sound where a record that breaks no rule acts.
use Rattle.std.proofs.Common.{◌≡◌, ℕ, zero, suc, ◌+◌, ◌==◌, ◌^◌, ◌<◌, ◌≤◌, ◌&&◌, [], ◌∷◌, Bool, true, false, Option, Some, None, Ok, Err, cond, find, nat_le, nat_lt, option_map, refl, ap, subst, ◌∙◌, arith}
use Rattle.std.proofs.lemmas.Bool.{lt-ltb}
use Rattle.run_laws.proofs.Sound.{accepted_sound}
use Rattle.tx_records.specs.declared.record.Record.{Record}
use Rattle.tx_records.specs.declared.record.Record.TheVariants as records
use Rattle.tx_records.specs.declared.record.Rewards.{Rewards}
use Rattle.tx_records.specs.declared.reply.Reply.TheVariants.{Refused}
use Rattle.tx_records.specs.declared.reply.Rule.{Rule}
use Rattle.tx_records.specs.declared.tx.Tx.{Tx}
use Rattle.tx_records.specs.RecordLimits.{is_within_limits}
use Rattle.ledger_model.proofs.Unbroken.{unbroken_from}
use Rattle.ledger_model.specs.Broken.{is_allowed}
use Rattle.ledger_model.specs.Checks.{Check, answer_by, breaks, breaks_keeping, first_among, is_broken, rule_of}
use Rattle.tx_records.specs.declared.rules.TheConstants.{EPOCH_SKIPPED, SLOT_NOT_LATER, ZERO_PULSE}
use Rattle.ledger_model.specs.Ledger.{Ledger}
use Rattle.ledger_model.specs.Transaction.{ledger_after_tx}
use Rattle.run_model.specs.SoundWorld.{IsSoundWorld}
use Rattle.run_model.specs.Step.{acceptance_of, block_checks, enters_next, epoch_at, in_order_of_credential, pulsed, refusal_of, reward_checks, step, step_by, world_after_accepted, world_after_block, crossed}
use Rattle.run_model.specs.World.{World, on_ledger}
use Rattle.ledger_state.specs.Blocks.{StaysInEpoch, entry_by}

-- ---- what an answer says

pub not_entered : (o : Option Rule) (b : Bool) (rule : Rule) → Err rule ≡ entry_by o b → o ≡ Some rule
not_entered None b rule h = cc
not_entered (Some other) b rule h = cc

-- the answer to a block by that of its rules
pub entry_refused : (o : Option Rule) (b : Bool) (rule : Rule) → Err rule ≡ answer_by o → Err rule ≡ entry_by o b
entry_refused None b rule h = cc
entry_refused (Some other) b rule h = cc

pub entry_open : (o : Option Rule) (b : Bool) (x : Unit {0}) → Ok x ≡ answer_by o → Ok b ≡ entry_by o b
entry_open None b x h = refl
entry_open (Some rule) b x h = cc

pub accepted : (o : Option Rule) (x : Unit {0}) → Ok x ≡ answer_by o → o ≡ None
accepted None x h = refl
accepted (Some rule) x h = cc

-- ---- a record that breaks no rule

-- what it leaves, and its reply
pub step_accepted : (w : World) (r : Record) → refusal_of w r ≡ None → step w r ≡ (world_after_accepted w r, acceptance_of r)
step_accepted w r none = ap (λ (o : Option Rule). step_by o w r) none

-- a refused one leaves all as it is
pub step_refused : (w : World) (r : Record) (rule : Rule) → refusal_of w r ≡ Some rule → step w r ≡ (w, Refused rule)
step_refused w r rule some = ap (λ (o : Option Rule). step_by o w r) some

-- a transaction
pub tx_sound : (w : World) (tx : Tx) → IsSoundWorld w → is_within_limits (records.Tx tx) ≡ true → is_allowed w.ledger tx ≡ true → IsSoundWorld (on_ledger (λ l. ledger_after_tx l tx) w)
tx_sound w tx s within allowed = accepted_sound w (records.Tx tx) s within (unbroken_from _ allowed)

-- a reward update
pub rewards_sound : (w : World) (u : Rewards) → IsSoundWorld w → is_within_limits (records.Rewards u) ≡ true → first_among (reward_checks w u) ≡ None → IsSoundWorld (record w { pending = Some (in_order_of_credential u) })
rewards_sound w u s within none = accepted_sound w (records.Rewards u) s within none

within_block : (slot pulse : ℕ) → slot < 2 ^ 62 → pulse < 2 ^ 32 → is_within_limits (records.Block slot pulse) ≡ true
within_block slot pulse early small = ap (λ b. b && nat_lt pulse (2 ^ 32)) (lt-ltb slot (2 ^ 62) early) ∙ lt-ltb pulse (2 ^ 32) small

pub block_stays : (w : World) (slot pulse : ℕ) → enters_next w.ledger slot ≡ false → world_after_block w slot pulse ≡ pulsed slot pulse w
block_stays w slot pulse stays = ap (λ b. pulsed slot pulse (crossed b w)) stays

-- a block that does not begin the next epoch
pub block_sound : (w : World) (slot pulse : ℕ) → IsSoundWorld w → slot < 2 ^ 62 → pulse < 2 ^ 32 → StaysInEpoch w.ledger slot pulse → first_among (block_checks w.ledger slot pulse) ≡ None → IsSoundWorld (pulsed slot pulse w)
block_sound w slot pulse s early small current none =
    subst (λ (x : World). IsSoundWorld x) (block_stays w slot pulse (current none))
    (accepted_sound w (records.Block slot pulse) s (within_block slot pulse early small) none)

-- ---- the rules on a block

last : (d : Check) → first_among (d ∷ []) ≡ None → d.broken ≡ false
last d h = elim d.broken as (λ x. option_map rule_of (cond x (Some d) None) ≡ None → x ≡ false) [ true ↦ λ e. cc | false ↦ λ e. refl ] h

second : (b d : Check) → first_among (b ∷ d ∷ []) ≡ None → d.broken ≡ false
second b d h =
    elim b.broken as (λ x. option_map rule_of (cond x (Some b) (find is_broken (d ∷ []))) ≡ None → d.broken ≡ false) [
      | true ↦ λ e. cc
      | false ↦ last d
    ] h

third : (a b d : Check) → first_among (a ∷ b ∷ d ∷ []) ≡ None → d.broken ≡ false
third a b d h =
    elim a.broken as (λ x. option_map rule_of (cond x (Some a) (find is_broken (b ∷ d ∷ []))) ≡ None → d.broken ≡ false) [
      | true ↦ λ e. cc
      | false ↦ second b d
    ] h

positive : (n : ℕ) → (n == 0) ≡ false → 1 ≤ n
positive zero h = cc
positive (suc n) h = omega arith

-- the pulse of a block that breaks none is positive
pub pulse_positive : (l : Ledger) (slot pulse : ℕ) → first_among (block_checks l slot pulse) ≡ None → 1 ≤ pulse
pulse_positive l slot pulse h = positive pulse (third (breaks_keeping SLOT_NOT_LATER l.slot (nat_le slot l.slot)) (breaks_keeping EPOCH_SKIPPED l.epoch (nat_lt (l.epoch + 1) (epoch_at l slot))) (breaks ZERO_PULSE (pulse == 0)) h)

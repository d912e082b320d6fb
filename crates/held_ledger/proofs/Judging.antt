-- What is judged of a record is what the definitions of the whole ledger say of it.
use Rattle.std.proofs.Common.{◌≡◌, ℕ, Bool, true, false, Option, Some, None, refl, ap, ◌∙◌}
use Rattle.held_ledger.specs.Applied.{applied_block_outcome, applied_outcome, is_print}
use Rattle.ledger_model.specs.Transaction.{accepted_as}
use Rattle.record_rule.specs.declared.applied.Applied.{Applied}
use Rattle.record_rule.specs.Reports.{report_by, report_into, report_of_record}
use Rattle.replay_loop.specs.Answers.{IsJudged}
use Rattle.replay_loop.specs.Outcomes.{block_outcome, outcome_by}
use Rattle.replay_loop.specs.declared.outcome.Outcome.{Outcome}
use Rattle.replay_loop.specs.declared.outcome.Outcome.TheVariants.{Answered}
use Rattle.run_model.specs.Step.{crossed, enters_next, pulsed, refusal_of, step, step_by}
use Rattle.run_model.specs.World.{World}
use Rattle.tx_records.specs.declared.record.Reading.TheVariants.{Read}
use Rattle.tx_records.specs.declared.record.Record.{Record}
use Rattle.tx_records.specs.declared.record.Record.TheVariants as records
use Rattle.tx_records.specs.declared.reply.Reply.{Reply}
use Rattle.tx_records.specs.declared.reply.Reply.TheVariants.{Accepted, AcceptedFailedScripts, Refused}
use Rattle.tx_records.specs.declared.reply.Rule.{Rule}
use Rattle.tx_records.specs.declared.report.EpochReport.{EpochReport}
use Rattle.tx_records.specs.declared.tx.Tx.{Tx}

-- a transaction comes to its reply
tx_comes : (reply : Reply) (tx : Tx) (w : World) → Answered reply ≡ outcome_by reply (records.Tx tx) w
tx_comes Accepted tx w = refl
tx_comes AcceptedFailedScripts tx w = refl
tx_comes (Refused rule) tx w = refl

-- an accepted block, by whether its slot is in the next epoch
block_comes : (enters : Bool) (w : World) (slot pulse : ℕ) → applied_block_outcome (pulsed slot pulse (crossed enters w)) Accepted (report_into enters w) ≡ block_outcome enters w
block_comes true w slot pulse = refl
block_comes false w slot pulse = refl

-- a record that is no print, by the first rule that it breaks
comes_by : (o : Option Rule) (w : World) (r : Record) → is_print r ≡ false
    → applied_outcome (step_by o w r).0 r (step_by o w r).1 (report_by o w r) ≡ outcome_by (step_by o w r).1 r w
comes_by o w (records.Print what) h = cc
comes_by (Some rule) w (records.Genesis g) h = refl
comes_by (Some rule) w (records.Block slot pulse) h = refl
comes_by (Some rule) w (records.Rewards u) h = refl
comes_by (Some rule) w (records.Tx tx) h = refl
comes_by None w (records.Genesis g) h = refl
comes_by None w (records.Block slot pulse) h = block_comes (enters_next w.ledger slot) w slot pulse
comes_by None w (records.Rewards u) h = refl
comes_by None w (records.Tx tx) h = tx_comes (accepted_as tx.scripts) tx w

-- what is judged of a record that was applied to a World, and whose World is held in memory of its own
pub applied_judged : (w v : World) (r : Record) (a : Applied) (held : World) (outcome : Outcome) → is_print r ≡ false → v ≡ w → (a.ledger, a.reply) ≡ step v r → a.report ≡ report_of_record v r
    → held ≡ a.ledger → outcome ≡ applied_outcome held r a.reply a.report → IsJudged w (Read r) (held, outcome)
applied_judged w v r a held outcome no_print same stepped reports kept comes =
    let is : (held, a.reply) ≡ step w r = ap (λ (x : World). (x, a.reply)) kept ∙ stepped ∙ ap (λ (x : World). step x r) same in
    let told : a.report ≡ report_of_record w r = reports ∙ ap (λ (x : World). report_of_record x r) same in (
      ap (λ (p : World × Reply). p.0) is,
      comes
          ∙ ap (λ (p : World × Reply). applied_outcome p.0 r p.1 a.report) is
          ∙ ap (λ (x : Option EpochReport). applied_outcome (step w r).0 r (step w r).1 x) told
          ∙ comes_by (refusal_of w r) w r no_print,
    )

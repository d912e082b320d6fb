use Rattle.std.proofs.Common.{List, ap, sym, subst, ◌∙◌, arith}
use Rattle.book_records.specs.declared.Entry.{Entry}
use Rattle.drep_pulser.specs.Pulsers.{GoesOnIn}
use Rattle.gov_ids.specs.declared.Credential.{Credential}
use Rattle.ledger_model.specs.Checks.{first_among}
use Rattle.run_model.specs.Step.{block_checks, pulsed}
use Rattle.run_model.specs.World.{World}
use Rattle.ledger_state.specs.Blocks.{StaysInEpoch}
use Rattle.ledger_state.specs.contracts.state.LedgerState.{the_view}
use Rattle.ledger_state.proofs.Steps.{block_sound, pulse_positive}
use Rattle.ledger_state.proofs.Worlds.{goes_on, held_after, held_along, pulsed_is, visited_are}
use Rattle.ledger_state.proofs.state.LedgerState.pulsed.Goals as goal

pub advanced-pulser-requires : goal.advanced-pulser-requires
advanced-pulser-requires c =
    let w = the_view c.self.inside in
    let entries = visited_are c.self.inside.live c.at_slot-live.result c.args.slot c.stake.result.now c.book.result.now c.at_slot-live.ensures c.stake.ensures.frozen c.book.ensures.value in
    record {
      some = pulse_positive c.args.self.ledger c.args.slot c.args.pulse c.requires.unbroken;
      goes_on = subst (λ (es : List (Credential × Entry)). GoesOnIn es c.self.inside.pulser) (sym entries) (goes_on w.frozen c.self.inside.pulser c.self.invariant.counts);
    }

pub invariant_of-result : goal.invariant_of-result
invariant_of-result c =
    let a = c.self.inside in
    let w = the_view a in
    let entries = visited_are a.live c.at_slot-live.result c.args.slot c.stake.result.now c.book.result.now c.at_slot-live.ensures c.stake.ensures.frozen c.book.ensures.value in
    let is = pulsed_is a.live c.at_slot-live.result a.snapshots a.pending a.frozen a.pulser c.advanced-pulser.result c.args.slot c.args.pulse c.at_slot-live.ensures c.self.invariant.counts c.advanced-pulser.ensures.done in
    held_along (pulsed c.args.slot c.args.pulse w) _ a.frozen c.advanced-pulser.result (sym is)
    (held_after w (pulsed c.args.slot c.args.pulse w) a.frozen a.pulser c.advanced-pulser.result c.self.invariant (λ i. w.frozen) (c.advanced-pulser.ensures.counts w.frozen (sym entries) c.self.invariant.counts)
    (block_sound w c.args.slot c.args.pulse c.self.invariant.sound c.requires.early (omega (arith, c.ranges.pulse.fits))
    (subst (λ (x : World). StaysInEpoch x.ledger c.args.slot c.args.pulse) (sym c.self.view_is) c.requires.current)
    (ap (λ (x : World). first_among (block_checks x.ledger c.args.slot c.args.pulse)) c.self.view_is ∙ c.requires.unbroken)))

pub returns : goal.returns
returns c =
    let a = c.self.inside in
    pulsed_is a.live c.at_slot-live.result a.snapshots a.pending a.frozen a.pulser c.advanced-pulser.result c.args.slot c.args.pulse c.at_slot-live.ensures c.self.invariant.counts c.advanced-pulser.ensures.done
    ∙ ap (pulsed c.args.slot c.args.pulse) c.self.view_is

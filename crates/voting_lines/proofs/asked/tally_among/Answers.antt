use Rattle.std.proofs.Common.{◌≡◌, true, false, Some, ap, sym, ◌∙◌}
use Rattle.gov_actions.specs.declared.tally.Tally.{Tally}
use Rattle.gov_ids.proofs.Sames.{action_same}
use Rattle.gov_ids.specs.Same.{same_action}
use Rattle.voting_lines.proofs.Found.{found_at, passed_at}
use Rattle.voting_lines.proofs.asked.tally_among.Goals as goal

pub returns-then-eq : goal.returns-then-eq
returns-then-eq c =
    let is_it = λ (t : Tally). same_action t.id c.args.id.now in
    let same : is_it c.tally-item.result ≡ true =
    sym (c.eq.ensures ∙ (λ i. action_same i c.tally-item.result.id c.args.id.now)) ∙ c.if-eq.true in
    ap Some c.tally-item.is
    ∙ found_at is_it c.args.tallies.now c.loop-tally.tally-index c.tally-item.result c.loop-tally-test.true (ap is_it (sym c.tally-item.is) ∙ same)
    ∙ c.loop-tally.invariant

pub loop-tally-preserved : goal.loop-tally-preserved
loop-tally-preserved c =
    let is_it = λ (t : Tally). same_action t.id c.args.id.now in
    let other : is_it c.tally-item.result ≡ false =
    sym (c.eq.ensures ∙ (λ i. action_same i c.tally-item.result.id c.args.id.now)) ∙ c.if-eq.false in
    passed_at is_it c.args.tallies.now c.loop-tally.tally-index c.tally-item.result c.loop-tally-test.true (ap is_it (sym c.tally-item.is) ∙ other)
    ∙ c.loop-tally.invariant

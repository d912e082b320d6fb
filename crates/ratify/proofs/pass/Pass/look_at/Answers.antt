use Rattle.std.proofs.Common.{List, sym, subst}
use Rattle.gov_actions.specs.declared.tally.Tally.{Tally}
use Rattle.ratify.specs.Passes.{AddsOne}
use Rattle.ratify.proofs.Steps.{tallied}
use Rattle.ratify.proofs.pass.Pass.look_at.Goals as goal

pub returns-clause-passed : goal.returns-clause-passed
returns-clause-passed c =
    let looked = tallied c.args.f.now c.args.cell.now c.args.self c.args.a.now c.in_ok-passing.passing c.in_ok-passing.tally c.in_ok-passing.ensures.passed c.in_ok-passing.ensures.tally in
    subst (λ (l : List Tally). AddsOne c.args.f.now c.args.cell.now c.args.self c.args.a.now (record { passing = c.in_ok-passing.passing; tallies = l })) (sym c.in_ok-push.ensures.ok) looked

use Rattle.std.proofs.Common.{ap, sym, subst, ◌∙◌}
use Rattle.gov_model.specs.Laws.{HaveDistinctIds}
use Rattle.gov_model.specs.Ratified.{IsRatified, tallies_of}
use Rattle.snapshots.specs.declared.frozen.Frozen.{Frozen}
use Rattle.ratify.specs.declared.pass.Pass.{Pass}
use Rattle.ratify.specs.Outcomes.{state_by}
use Rattle.ratify.proofs.Told.{ratified_is, state_is, tallies_are}
use Rattle.ratify.proofs.outcome.ratify_tallied.Goals as goal

pub returns-clause-ratified : goal.returns-clause-ratified
returns-clause-ratified c = λ s is.
    let own = subst (λ (g : Frozen). HaveDistinctIds g.proposals) is.frozen c.requires.counted.proposals in
    subst (IsRatified s) (sym (ap (λ (p : Pass). p.passing.ratified) (c.in_ok-passing.ensures.passed s is.frozen (c.requires.cells s is)))) (ratified_is s own)

pub returns-clause-state : goal.returns-clause-state
returns-clause-state c = λ s is.
    let own = subst (λ (g : Frozen). HaveDistinctIds g.proposals) is.frozen c.requires.counted.proposals in
    let passed = c.in_ok-passing.ensures.passed s is.frozen (c.requires.cells s is) in
    ap (λ (p : Pass). p.passing.state) passed ∙ state_is s own ∙ ap (λ (p : Pass). state_by s p.passing.ratified) (sym passed)

pub returns-clause-tallies : goal.returns-clause-tallies
returns-clause-tallies c = λ s is.
    let own = subst (λ (g : Frozen). HaveDistinctIds g.proposals) is.frozen c.requires.counted.proposals in
    let passed = c.in_ok-passing.ensures.passed s is.frozen (c.requires.cells s is) in
    ap (λ (p : Pass). p.tallies) passed ∙ tallies_are s own ∙ ap (λ (p : Pass). tallies_of s p.passing.ratified) (sym passed)

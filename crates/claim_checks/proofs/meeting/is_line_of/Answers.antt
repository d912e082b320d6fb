use Rattle.std.proofs.Common.{◌≡◌, ◌==◌, false, true, bytes_eq, eq-eqb, sym, ◌∙◌}
use Rattle.std.proofs.Math.Bool.{and-true, and-false}
use Rattle.std.proofs.lemmas.Bool.{false_from_ne_true, eqb-true}
use Rattle.claim_checks.proofs.Lines.{by_last}
use Rattle.claim_checks.proofs.meeting.is_line_of.Goals as goal

pub returns-then-last-eq10 : goal.returns-then-last-eq10
returns-then-last-eq10 c =
    let is = c.in-Some.ensures.cases in
    let before = c.in-Some.before.now in
    let text = c.args.text.now in
    c.eq.ensures ∙ sym (by_last c.args.line.now before text c.in-Some.last.now true is.0 (eq-eqb c.in-Some.last.now 10 c.if-last-eq10.true) ∙ and-true (bytes_eq before text))

pub returns-else-last-eq10 : goal.returns-else-last-eq10
returns-else-last-eq10 c =
    let is = c.in-Some.ensures.cases in
    let before = c.in-Some.before.now in
    let text = c.args.text.now in
    let other : (c.in-Some.last.now == 10) ≡ false = false_from_ne_true (c.in-Some.last.now == 10) (λ e. c.if-last-eq10.false (eqb-true c.in-Some.last.now 10 e)) in
    other ∙ sym (by_last c.args.line.now before text c.in-Some.last.now false is.0 other ∙ and-false (bytes_eq before text))

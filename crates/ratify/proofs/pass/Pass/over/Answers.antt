use Rattle.std.proofs.Common.{◌≡◌, ℕ, List, [], ◌∷◌, ◌++◌, length, min, take, ap, sym, ◌∙◌, arith, rules, length-append}
use Rattle.std.proofs.lemmas.Bool.{eq-eqb, ne_eqb}
use Rattle.std.proofs.lemmas.List.{length-map, take_all}
use Rattle.std.proofs.lemmas.Slice.Zip.{zip_end, zip_turn}
use Rattle.gov_actions.specs.declared.action.Proposal.{Proposal}
use Rattle.snapshots.specs.declared.frozen.Frozen.{Frozen}
use Rattle.tally.specs.Cells.{cell_of}
use Rattle.ratify.specs.Passes.{of_priority, pass_after}
use Rattle.ratify.proofs.Orders.{with_next, without_next}
use Rattle.ratify.proofs.Steps.{looked_more}
use Rattle.ratify.proofs.pass.Pass.over.Goals as goal

pub loop-a-preserved-then-priority : goal.loop-a-preserved-then-priority
loop-a-preserved-then-priority c =
    let items = c.args.f.now.proposals in
    let n = c.args.priority in
    let i = length c.loop-a.yielded in
    let a = c.in-Some.a.now in
    let cell = c.in-Some.cell.now in
    let turn = zip_turn items c.args.cells.now c.loop-a.yielded c.into_iter-a-iterator.result c.loop-a.a-iterator c.next.new.self c.next.result
    (search rules) (search rules) c.loop-a.yielded_by (c.in-Some.a, c.in-Some.cell) c.in-Some.is c.next.ensures.steps in
    record {
      passed = looked_more c.args.f.now c.args.cells.now c.args.self c.loop-a.pass c.in_ok-pass.pass (of_priority n (take i items)) _ i a cell turn.0 (turn.2 a) (turn.3 cell)
          (with_next n i items a turn.0 (turn.2 a) (eq-eqb _ _ (sym c.priority.ensures ∙ c.if-priority.true))
          ∙ ap (λ (k : ℕ). of_priority n (take k items)) (sym (length-append c.loop-a.yielded ((c.in-Some.a, c.in-Some.cell) ∷ []))))
          c.loop-a.invariant.passed c.in_ok-pass.ensures.passed;
      members = c.in_ok-pass.ensures.members;
    }

pub loop-a-preserved : goal.loop-a-preserved
loop-a-preserved c =
    let items = c.args.f.now.proposals in
    let n = c.args.priority in
    let i = length c.loop-a.yielded in
    let a = c.in-Some.a.now in
    let turn = zip_turn items c.args.cells.now c.loop-a.yielded c.into_iter-a-iterator.result c.loop-a.a-iterator c.next.new.self c.next.result
    (search rules) (search rules) c.loop-a.yielded_by (c.in-Some.a, c.in-Some.cell) c.in-Some.is c.next.ensures.steps in
    record {
      passed = λ s of counted front before.
          c.loop-a.invariant.passed s of counted front before
          ∙ ap (λ (l : List Proposal). pass_after s (front ++ l))
          (without_next n i items a turn.0 (turn.2 a) (ne_eqb _ _ (λ e. c.if-priority.false (c.priority.ensures ∙ e)))
          ∙ ap (λ (k : ℕ). of_priority n (take k items)) (sym (length-append c.loop-a.yielded ((c.in-Some.a, c.in-Some.cell) ∷ []))));
      members = c.loop-a.invariant.members;
    }

pub returns-clause-passed : goal.returns-clause-passed
returns-clause-passed c =
    let items = c.args.f.now.proposals in
    let cells = c.args.cells.now in
    let ended : length c.loop-a.yielded ≡ min (length items) (length cells) = zip_end items cells c.loop-a.yielded c.into_iter-a-iterator.result c.loop-a.a-iterator c.next.new.self c.next.result
    (search rules) (search rules) c.loop-a.yielded_by c.in-None.is c.next.ensures.steps in
    λ s of counted front before.
    let same : length cells ≡ length items = ap length counted ∙ length-map s.proposals (cell_of s) ∙ ap (λ (f : Frozen). length f.proposals) (sym of) in
    c.loop-a.invariant.passed s of counted front before
    ∙ ap (λ (l : List Proposal). pass_after s (front ++ of_priority c.args.priority l)) (take_all (length c.loop-a.yielded) items (omega (arith, ended, same)))

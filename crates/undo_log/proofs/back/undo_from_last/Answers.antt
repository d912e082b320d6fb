use Rattle.std.proofs.Common.{◌≡◌, ◌+◌, ◌<◌, ◌≤◌, ◌++◌, ◌∷◌, [], length, List, ap, arith, rules, subst, sym, ◌∙◌}
use Rattle.std.proofs.lemmas.List.{length-append}
use Rattle.ledger_books.specs.declared.Books.{Books}
use Rattle.ledger_books.specs.Parts.{IsStep, frozen_entries}
use Rattle.undo_model.specs.Undone.{Before, undone}
use Rattle.undo_log.proofs.Undone.{all_undone, first_stay, last_undoable, one_undone}
use Rattle.undo_log.proofs.back.undo_from_last.Goals as goal
use Rattle.undo_log.proofs.back.undo_from_last.Goals.{in-Some+in_ok-books, in_default}

pub undo_books-requires : goal.undo_books-requires
undo_books-requires c =
    last_undoable c.loop.entries.items c.pop.new.self.items c.in-Some.entry c.loop.books c.in-Some.ensures.items c.loop.invariant.back.undoable

pub loop-preserved : goal.loop-preserved
loop-preserved c =
    let n = c.args.n in
    let left = c.loop.entries.items in
    let front = c.pop.new.self.items in
    elim c.match-pop.branch [
      | in-Some+in_ok-books w ↦
          let entry : Before = w.in-Some.entry in
          let is : left ≡ front ++ entry ∷ [] = w.in-Some.ensures.items in
          let long : length left ≡ length front + 1 = ap (λ (bs : List Before). length bs) is ∙ length-append front (entry ∷ []) in
          let more : n < length left = omega (arith, c.loop.invariant.left, c.loop-test.true) in
          let step : IsStep (undone entry) c.loop.books c.match-pop.books = subst (λ (b : Books). IsStep (undone entry) c.loop.books b) (sym w.books-is) w.in_ok-books.ensures.world in
          record {
            back = one_undone n c.args.entries.now.items left front entry c.args.b c.loop.books c.match-pop.books is more step c.loop.invariant.back;
            frozen = ap (λ (b : Books). frozen_entries b) w.books-is ∙ w.in_ok-books.ensures.frozen ∙ c.loop.invariant.frozen;
            first = first_stay n left front entry is more ∙ c.loop.invariant.first;
            left = omega (arith, long, c.loop.invariant.left);
          }
      | in_default w ↦
          let gone : length left ≡ 0 = search rules in
          absurd (omega (arith, gone, c.loop.invariant.left, c.loop-test.true))
    ]

pub returns-clause-world : goal.returns-clause-world
returns-clause-world c =
    let few : length c.loop.entries.items ≤ c.args.n = omega (arith, c.loop.invariant.left, c.loop-test.false) in
    all_undone c.args.n c.args.entries.now.items c.loop.entries.items c.args.b c.loop.books few c.loop.invariant.back

use Rattle.std.proofs.Common.{List, sym, subst}
use Rattle.std.proofs.lemmas.Result.{IfOk-weaker}
use Rattle.accounts.specs.Accounts.{Accounts}
use Rattle.drep_pulser.specs.Pulsers.{GoesOnIn, done_by}
use Rattle.gov_ids.specs.Orders.{credential_cmp}
use Rattle.ledger_books.specs.Parts.{world_of_books}
use Rattle.tally.specs.Cells.{AreCells}
use Rattle.tally.specs.declared.cells.TallyCell.{TallyCell}
use Rattle.view_map.specs.View.{frozen_of}
use Rattle.epoch_rule.proofs.Crossing.{begun_is, early_books, going, lists_are, snapshot_held, sound_books}
use Rattle.epoch_rule.proofs.rule.ended.Goals as goal

pub finished-counted-requires-clause-goes_on : goal.finished-counted-requires-clause-goes_on
finished-counted-requires-clause-goes_on g c = λ lifetimes bounds.
    let r = c.into_books-books.result in
    subst (λ (a : Accounts). GoesOnIn (frozen_of credential_cmp a) r.2) (sym c.book.ensures.value)
    (going c.args.s r.0 r.1 r.2 c.into_books-books.ensures.world c.into_books-books.ensures.held)

pub tallied-tallied-requires-clause-counted : goal.tallied-tallied-requires-clause-counted
tallied-tallied-requires-clause-counted g c = λ lifetimes bounds.
    let r = c.into_books-books.result in
    let parts = c.into_books-books.ensures.world in
    let held = c.into_books-books.ensures.held in
    let a = sound_books c.args.s r.0 r.1 r.2 parts held c.book.result.now c.book.ensures.value c.finished-counted.result c.finished-counted.ensures in
    c.sound_can_be_counted.ensures (world_of_books r.0 (done_by r.2) (snapshot_held c.args.s r.0 r.1 r.2 parts held)) r.1 c.finished-counted.result a.sound a.frozen

pub crossed-requires-clause-sound : goal.crossed-requires-clause-sound
crossed-requires-clause-sound g c =
    let r = c.into_books-books.result in
    let parts = c.into_books-books.ensures.world in
    let held = c.into_books-books.ensures.held in (
      done_by r.2,
      snapshot_held c.args.s r.0 r.1 r.2 parts held,
      sound_books c.args.s r.0 r.1 r.2 parts held c.book.result.now c.book.ensures.value c.finished-counted.result c.finished-counted.ensures,
    )

pub crossed-requires-clause-early : goal.crossed-requires-clause-early
crossed-requires-clause-early g c =
    let r = c.into_books-books.result in
    early_books c.args.s r.0 r.1 r.2 c.into_books-books.ensures.world c.into_books-books.ensures.held c.requires.early

pub crossed-requires-clause-cells : goal.crossed-requires-clause-cells
crossed-requires-clause-cells g c =
    subst (λ (cells : List TallyCell). AreCells c.into_books-books.result.1 c.finished-counted.result cells) (sym c.as_slice.ensures.value) c.tallied-tallied.ensures

pub returns-clause-begun : goal.returns-clause-begun
returns-clause-begun g c =
    let r = c.into_books-books.result in
    let parts = c.into_books-books.ensures.world in
    let held = c.into_books-books.ensures.held in
    let sound = sound_books c.args.s r.0 r.1 r.2 parts held c.book.result.now c.book.ensures.value c.finished-counted.result c.finished-counted.ensures in
    IfOk-weaker c.crossed.result _ _ (λ e h. begun_is c.args.s r.0 r.1 r.2 parts held e.0 (h (done_by r.2) (snapshot_held c.args.s r.0 r.1 r.2 parts held) sound)) c.crossed.ensures.begun

pub returns-clause-lists : goal.returns-clause-lists
returns-clause-lists g c =
    let r = c.into_books-books.result in
    let parts = c.into_books-books.ensures.world in
    let held = c.into_books-books.ensures.held in
    let sound = sound_books c.args.s r.0 r.1 r.2 parts held c.book.result.now c.book.ensures.value c.finished-counted.result c.finished-counted.ensures in
    IfOk-weaker c.crossed.result _ _ (λ e h. lists_are c.args.s r.0 r.1 r.2 parts held e.1 (h (done_by r.2) (snapshot_held c.args.s r.0 r.1 r.2 parts held) sound)) c.crossed.ensures.lists

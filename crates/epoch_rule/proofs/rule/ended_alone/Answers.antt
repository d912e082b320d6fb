use Rattle.std.proofs.Common.{List, sym, subst}
use Rattle.std.proofs.lemmas.Result.{IfOk-weaker}
use Rattle.accounts.specs.Accounts.{Accounts}
use Rattle.drep_pulser.specs.Pulsers.{GoesOnIn, done_by}
use Rattle.gov_ids.specs.Orders.{credential_cmp}
use Rattle.ledger_books.specs.Parts.{world_of_books}
use Rattle.tally.specs.Cells.{AreCells}
use Rattle.tally.specs.declared.cells.TallyCell.{TallyCell}
use Rattle.view_map.specs.View.{frozen_of}
use Rattle.epoch_rule.proofs.Crossing.{begun_is, early_books, going, lists_are, snapshot_held, sound_books}
use Rattle.epoch_rule.proofs.rule.ended_alone.Goals as goal

pub finished_alone-counted-requires : goal.finished_alone-counted-requires
finished_alone-counted-requires c =
    let r = c.into_books-books.result in record {
      goes_on =
          subst (λ (a : Accounts). GoesOnIn (frozen_of credential_cmp a) r.2) (sym c.book.ensures.value)
          (going c.args.s r.0 r.1 r.2 c.into_books-books.ensures.world c.into_books-books.ensures.held);
    }

pub tallied_alone-requires : goal.tallied_alone-requires
tallied_alone-requires c =
    let r = c.into_books-books.result in
    let parts = c.into_books-books.ensures.world in
    let held = c.into_books-books.ensures.held in
    let a = sound_books c.args.s r.0 r.1 r.2 parts held c.book.result.now c.book.ensures.value c.finished_alone-counted.result c.finished_alone-counted.ensures in
    c.sound_can_be_counted.ensures (world_of_books r.0 (done_by r.2) (snapshot_held c.args.s r.0 r.1 r.2 parts held)) r.1 c.finished_alone-counted.result a.sound a.frozen

pub crossed-requires-clause-sound : goal.crossed-requires-clause-sound
crossed-requires-clause-sound c =
    let r = c.into_books-books.result in
    let parts = c.into_books-books.ensures.world in
    let held = c.into_books-books.ensures.held in (
      done_by r.2,
      snapshot_held c.args.s r.0 r.1 r.2 parts held,
      sound_books c.args.s r.0 r.1 r.2 parts held c.book.result.now c.book.ensures.value c.finished_alone-counted.result c.finished_alone-counted.ensures,
    )

pub crossed-requires-clause-early : goal.crossed-requires-clause-early
crossed-requires-clause-early c =
    let r = c.into_books-books.result in
    early_books c.args.s r.0 r.1 r.2 c.into_books-books.ensures.world c.into_books-books.ensures.held c.requires.early

pub crossed-requires-clause-cells : goal.crossed-requires-clause-cells
crossed-requires-clause-cells c =
    subst (λ (cells : List TallyCell). AreCells c.into_books-books.result.1 c.finished_alone-counted.result cells) (sym c.as_slice.ensures.value) c.in-Ok.ensures

pub returns-in-Ok-clause-begun : goal.returns-in-Ok-clause-begun
returns-in-Ok-clause-begun c =
    let r = c.into_books-books.result in
    let parts = c.into_books-books.ensures.world in
    let held = c.into_books-books.ensures.held in
    let sound = sound_books c.args.s r.0 r.1 r.2 parts held c.book.result.now c.book.ensures.value c.finished_alone-counted.result c.finished_alone-counted.ensures in
    IfOk-weaker c.crossed.result _ _ (λ e h. begun_is c.args.s r.0 r.1 r.2 parts held e.0 (h (done_by r.2) (snapshot_held c.args.s r.0 r.1 r.2 parts held) sound)) c.crossed.ensures.begun

pub returns-in-Ok-clause-lists : goal.returns-in-Ok-clause-lists
returns-in-Ok-clause-lists c =
    let r = c.into_books-books.result in
    let parts = c.into_books-books.ensures.world in
    let held = c.into_books-books.ensures.held in
    let sound = sound_books c.args.s r.0 r.1 r.2 parts held c.book.result.now c.book.ensures.value c.finished_alone-counted.result c.finished_alone-counted.ensures in
    IfOk-weaker c.crossed.result _ _ (λ e h. lists_are c.args.s r.0 r.1 r.2 parts held e.1 (h (done_by r.2) (snapshot_held c.args.s r.0 r.1 r.2 parts held) sound)) c.crossed.ensures.lists

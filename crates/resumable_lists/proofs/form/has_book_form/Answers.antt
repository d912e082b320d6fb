use Rattle.state_lists.specs.Worlds.{ledger_of_lists}
use Rattle.resumable_lists.proofs.Forms.{book_form}
use Rattle.resumable_lists.proofs.form.has_book_form.Goals as goal

pub returns : goal.returns
returns c = book_form c.books_of.result c.args.state.now c.requires (c.books_of.ensures (ledger_of_lists c.args.state.now)) c.has_book_form.result c.has_book_form.ensures

use Rattle.std.proofs.Common.{ap, subst, sym, ◌∙◌}
use Rattle.epoch_start.specs.of_ledger_books.declared.Books.{Books}
use Rattle.ledger_state.specs.Parts.{world_of_parts}
use Rattle.ledger_state.specs.Worlds.{IsHeldBy}
use Rattle.ledger_state.proofs.state.begin.begun_with.Goals as goal

pub from_books-requires : goal.from_books-requires
from_books-requires c = subst (λ (b : Books). IsHeldBy (world_of_parts b c.args.f c.args.p) c.args.f c.args.p) (sym c.in-Ok.ensures.ok) c.requires

pub returns-in-Ok : goal.returns-in-Ok
returns-in-Ok c = c.from_books.ensures ∙ ap (λ (b : Books). world_of_parts b c.args.f c.args.p) c.in-Ok.ensures.ok

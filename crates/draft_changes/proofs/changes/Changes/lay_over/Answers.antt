use Rattle.std.proofs.Common.{subst, sym}
use Rattle.stake_book.specs.Stakes.{accounts_of, without_dreps}
use Rattle.draft_changes.specs.Balances.{NoneRises}
use Rattle.draft_changes.specs.Changed.{Changed}
use Rattle.draft_changes.proofs.changes.Changes.lay_over.Goals as goal

pub lay_accounts_over-requires-clause-lower : goal.lay_accounts_over-requires-clause-lower
lay_accounts_over-requires-clause-lower c =
    subst (λ (x : Changed). NoneRises x.accounts (without_dreps x.left (accounts_of c.args.b.now.stake))) (sym c.self.view_is) c.requires.lower

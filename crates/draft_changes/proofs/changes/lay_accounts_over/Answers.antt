use Rattle.stake_book.specs.Stakes.{accounts_of}
use Rattle.draft_changes.proofs.Ending.{registrations_stay, votes_stay}
use Rattle.draft_changes.proofs.changes.lay_accounts_over.Goals as goal

pub returns-then-is_none-clause-accounts : goal.returns-then-is_none-clause-accounts
returns-then-is_none-clause-accounts c =
    registrations_stay _ (c.is_none.ensures.left c.if-is_none.true) _ (c.is_none.ensures.accounts c.if-is_none.true) (accounts_of c.args.stake.now)

pub returns-then-is_none-clause-proposals : goal.returns-then-is_none-clause-proposals
returns-then-is_none-clause-proposals c = votes_stay _ (c.is_none.ensures.left c.if-is_none.true) c.args.proposals.now

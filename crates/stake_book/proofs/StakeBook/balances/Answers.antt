use Rattle.std.proofs.Common.{ap, sym, ◌∙◌}
use Rattle.stake_book.specs.Stakes.{Stakes, accounts_of, balances_in}
use Rattle.stake_book.proofs.Registrations.{balances_is}
use Rattle.stake_book.proofs.StakeBook.balances.Goals as goal

pub returns-clause-sum : goal.returns-clause-sum
returns-clause-sum c = c.balances.ensures ∙ sym (balances_is c.self.inside.accounts.live) ∙ ap (λ (s : Stakes). balances_in (accounts_of s)) c.self.view_is

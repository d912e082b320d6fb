use Rattle.std.proofs.Common.{List, subst, sym}
use Rattle.gov_ids.specs.declared.Credential.{Credential}
use Rattle.book_records.specs.declared.Registered.{Registered}
use Rattle.stake_book.specs.Stakes.{accounts_of, without_dreps}
use Rattle.draft_changes.specs.Balances.{NoneRises}
use Rattle.draft_changes.specs.ChangedAccounts.{ChangedAccounts, standing_of}
use Rattle.draft_changes.proofs.account_changes.AccountChanges.lay_over.Goals as goal

pub put_accounts-requires-clause-lower : goal.put_accounts-requires-clause-lower
put_accounts-requires-clause-lower c =
    let accounts = accounts_of c.args.stake.now in
    subst (λ (es : List (Credential × Registered)). NoneRises (standing_of c.self.inside.left.entries c.self.inside.entries.entries) es) (sym c.in_ok-take_left.ensures.accounts)
    (subst (λ (a : ChangedAccounts). NoneRises a.accounts (without_dreps c.args.left.now accounts)) (sym c.self.view_is)
    (subst (λ (ks : List Credential). NoneRises c.args.self.accounts (without_dreps ks accounts)) (sym c.requires.left) c.requires.lower))

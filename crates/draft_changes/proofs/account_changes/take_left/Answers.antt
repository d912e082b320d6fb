use Rattle.std.proofs.Common.{◌≡◌, List, [], length, ap, sym, ◌∙◌}
use Rattle.std.proofs.lemmas.Bool.{eqb-true}
use Rattle.std.proofs.lemmas.List.{nil_from_length}
use Rattle.gov_ids.specs.declared.Credential.{Credential}
use Rattle.stake_book.specs.Stakes.{accounts_of, without_dreps}
use Rattle.draft_changes.proofs.Ending.{no_delegation_ended}
use Rattle.draft_changes.proofs.account_changes.take_left.Goals as goal

pub returns-then-is_empty-clause-accounts : goal.returns-then-is_empty-clause-accounts
returns-then-is_empty-clause-accounts c =
    let none : c.args.left.now ≡ [] = nil_from_length c.args.left.now (eqb-true (length c.args.left.now) 0 (sym c.if-is_empty.ensures)) in
    sym (ap (λ (ks : List Credential). without_dreps ks (accounts_of c.args.stake.now)) none ∙ no_delegation_ended (accounts_of c.args.stake.now))

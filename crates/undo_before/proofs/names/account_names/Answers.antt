use Rattle.std.proofs.Common.{◌≡◌, List, [], ◌++◌, append-nil, ap, sym, ◌∙◌, rules}
use Rattle.gov_ids.specs.declared.Credential.{Credential}
use Rattle.stake_book.specs.Stakes.{registrations}
use Rattle.undo_before.specs.Names.{delegators}
use Rattle.undo_before.proofs.Touched.{no_delegators}
use Rattle.undo_before.proofs.names.account_names.Goals as goal

pub returns-then-is_empty : goal.returns-then-is_empty
returns-then-is_empty c =
    let accounts = registrations c.args.book.now.live in
    let names = c.args.names.now in
    let collected : c.in_ok-all.all.items ≡ names.accounts = search rules in
    let none : names.left ≡ [] = search rules in
    collected ∙ sym (append-nil names.accounts)
    ∙ ap (λ (cs : List Credential). names.accounts ++ cs) (sym (no_delegators accounts))
    ∙ ap (λ (left : List Credential). names.accounts ++ delegators left accounts) (sym none)

pub returns : goal.returns
returns c =
    let accounts = registrations c.args.book.now.live in
    let names = c.args.names.now in
    let collected : c.in_ok-all.all.items ≡ names.accounts = search rules in
    c.in_ok-add_delegators.ensures ∙ (λ i. collected i ++ delegators (c.as_slice-2.ensures i) accounts)

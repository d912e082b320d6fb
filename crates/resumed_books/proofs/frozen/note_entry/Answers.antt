use Rattle.std.proofs.Common.{List, Some, ap, sym, ◌∙◌}
use Rattle.book_records.specs.declared.Entry.{Entry}
use Rattle.gov_ids.specs.declared.Credential.{Credential}
use Rattle.gov_ids.specs.Orders.{credential_cmp}
use Rattle.gov_ids.proofs.Exacts.{credential_exact}
use Rattle.gov_ids.proofs.Totals.{credential_total}
use Rattle.accounts.specs.Accounts.{Accounts}
use Rattle.maps.specs.Maps.{value_at}
use Rattle.resumed_books.proofs.Put.{put_there}
use Rattle.resumed_books.specs.Noted.{with_frozen}
use Rattle.resumed_books.proofs.frozen.note_entry.Goals as goal

pub returns-then-is_same_entry : goal.returns-then-is_same_entry
returns-then-is_same_entry c =
    let s = c.args.stake.now in
    let here = sym (ap (λ (a : Accounts). value_at credential_cmp a.frozen c.args.credential) c.book.ensures.value) ∙ sym c.frozen_get.ensures ∙ c.in-Some.is ∙ ap (λ (e : Entry). Some e) (c.is_same_entry.ensures c.if-is_same_entry.true) in
    sym (ap (λ (es : List (Credential × Entry)). with_frozen es s) (put_there credential_total credential_exact c.args.credential c.args.entry.now s.accounts.frozen c.requires here))

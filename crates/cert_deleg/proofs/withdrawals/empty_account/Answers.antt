use Rattle.std.proofs.Common.{ap, sym, ◌∙◌}
use Rattle.live_ledger.specs.Drafts.{Drafted}
use Rattle.maps.proofs.Placed.{changed_at_absent}
use Rattle.gov_ids.specs.Orders.{credential_cmp}
use Rattle.ledger_model.specs.Changes.{emptied}
use Rattle.book_records.specs.declared.Registered.{Registered}
use Rattle.gov_ids.specs.declared.Credential.{Credential}
use Rattle.std.proofs.Common.{List}
use Rattle.cert_deleg.proofs.Delegating.{emptied_one}
use Rattle.cert_deleg.proofs.withdrawals.empty_account.Goals as goal

pub returns-in_ok-change_account-in-Some-clause-ledger : goal.returns-in_ok-change_account-in-Some-clause-ledger
returns-in_ok-change_account-in-Some-clause-ledger c =
    ap (λ (d : Drafted). d.ledger) c.in_ok-change_account-in-Some.ensures.ok
    ∙ emptied_one c.args.d.now c.args.c c.in-Some.registered c.in-Some.ensures.map (sym c.in-Some.ensures.value)

pub returns-in-None-clause-ledger : goal.returns-in-None-clause-ledger
returns-in-None-clause-ledger c =
    ap (λ (es : List (Credential × Registered)). record c.args.d.now.ledger { accounts = es })
    (sym (changed_at_absent credential_cmp c.args.c emptied c.args.d.now.ledger.accounts (sym c.in-None.ensures.value)))

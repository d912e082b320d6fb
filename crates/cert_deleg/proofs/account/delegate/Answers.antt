use Rattle.std.proofs.Common.{Some, sym, subst, ◌∙◌}
use Rattle.live_ledger.specs.Drafts.{Drafted, with_account}
use Rattle.tx_records.specs.declared.cert.Cert.TheVariants.{Delegate}
use Rattle.live_ledger.specs.Moved.{IsCertified}
use Rattle.cert_deleg.proofs.Delegating.{delegated, first_there, not_delegated}
use Rattle.cert_deleg.proofs.account.delegate.Goals as goal

pub returns-in_ok-change_account-in-Some-clause-ok : goal.returns-in_ok-change_account-in-Some-clause-ok
returns-in_ok-change_account-in-Some-clause-ok c =
    let d = c.args.d.now in
    let r = c.in-Some.registered in
    let pool = c.or.ensures ∙ first_there c.args.pool r.pool in
    let drep = c.or-in-Some.ensures ∙ first_there c.args.drep r.drep in
    subst (λ (x : Drafted). IsCertified (Delegate c.args.cred c.args.pool c.args.drep) d x)
    (sym (c.in_ok-change_account-in-Some.ensures.ok ∙ (λ i. with_account c.args.cred (Some (record r { pool = pool i; drep = drep i })) d)))
    (delegated d c.args.cred r c.requires.in_order (sym c.requires.found ∙ c.in-Some.is) c.args.pool c.args.drep)

pub returns-in-None-clause-ok : goal.returns-in-None-clause-ok
returns-in-None-clause-ok c = not_delegated c.args.d.now c.args.cred c.args.pool c.args.drep (sym c.requires.found ∙ c.in-None.is)

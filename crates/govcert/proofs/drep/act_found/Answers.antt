use Rattle.std.proofs.Common.{Some, sym, subst, ◌∙◌}
use Rattle.live_ledger.specs.Drafts.{Drafted, with_drep}
use Rattle.live_ledger.specs.Moved.{IsCertified}
use Rattle.tx_records.specs.declared.cert.Cert.TheVariants.{DrepUpdate}
use Rattle.govcert.proofs.Acting.{acts, acts_not}
use Rattle.govcert.proofs.drep.act_found.Goals as goal

pub returns-in_ok-change_drep-in-Some-clause-ok : goal.returns-in_ok-change_drep-in-Some-clause-ok
returns-in_ok-change_drep-in-Some-clause-ok c =
    let d = c.args.d.now in
    subst (λ (x : Drafted). IsCertified (DrepUpdate c.args.cred) d x)
    (sym (c.in_ok-change_drep-in-Some.ensures.ok ∙ (λ i. with_drep c.args.cred (Some (c.having_acted-acting.ensures.value i)) d)))
    (acts d c.args.cred c.in-Some.registered c.requires.in_order (sym c.requires.found ∙ c.in-Some.is))

pub returns-in-None-clause-ok : goal.returns-in-None-clause-ok
returns-in-None-clause-ok c = acts_not c.args.d.now c.args.cred (sym c.requires.found ∙ c.in-None.is)

use Rattle.std.proofs.Common.{◌≡◌, ◌+◌, ap, sym, ◌∙◌}
use Rattle.ledger_model.specs.Ledger.{account_at}
use Rattle.draft_changes.specs.ChangedAccounts.{ChangedAccounts}
use Rattle.draft_changes.specs.ChangedParts.{changed_of}
use Rattle.draft_changes.specs.Changed.{laid_over}
use Rattle.live_ledger.specs.Drafts.{Drafted, deposit_in, given_back, paid_by, with_account}
use Rattle.live_ledger.proofs.DraftChanging.{account_laid}
use Rattle.live_ledger.proofs.draft.Draft.change_account.Goals as goal

pub returns-clause-ok : goal.returns-clause-ok
returns-clause-ok c =
    let a = c.self.inside in
    let start = a.start.now.ledger in
    let is = c.self.view_is in
    let laid = ap (λ (x : ChangedAccounts). laid_over (changed_of x a.pools.entries a.dreps a.hot.entries) start) c.in_ok-set.ensures.ok
    ∙ account_laid start c.self.invariant.kept a.accounts a.pools.entries a.dreps a.hot.entries c.args.c c.args.to c.in_ok-set.ensures.in_order in
    let account = c.requires.before ∙ ap (λ (d : Drafted). account_at d.ledger c.args.c) (sym is) in
    let held : c.deposit_in-held.result ≡ deposit_in (account_at (laid_over (changed_of a.accounts a.pools.entries a.dreps a.hot.entries) start) c.args.c) = c.deposit_in-held.ensures ∙ ap deposit_in account in
    let kept : c.deposit_in-kept.result ≡ deposit_in c.args.to = c.deposit_in-kept.ensures in
    let gave = c.from.ensures ∙ c.given_back.ensures ∙ (λ i. given_back (held i) (kept i)) in
    let paid = c.from-2.ensures ∙ c.paid_by.ensures ∙ (λ i. paid_by (held i) (kept i)) in
    (λ i. record { start = start; ledger = laid i; refunds = a.refunds + gave i; deposits = a.deposits + paid i; changes = a.changes + 1 })
    ∙ ap (λ (d : Drafted). with_account c.args.c c.args.to d) is

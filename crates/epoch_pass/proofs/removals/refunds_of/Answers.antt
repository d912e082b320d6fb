use Rattle.std.proofs.Common.{◌≡◌, ℕ, ◌+◌, List, [], ◌∷◌, ◌++◌, drop, map, ap, sym, ◌∙◌, add-one, append_assoc}
use Rattle.std.proofs.Math.Seq.{drop-cons}
use Rattle.gov_actions.specs.declared.action.Proposal.{Proposal}
use Rattle.gov_ids.specs.declared.Credential.{Credential}
use Rattle.epoch_pass.specs.Removals.{refund_of}
use Rattle.epoch_pass.proofs.removals.refunds_of.Goals as goal

pub loop-p-preserved : goal.loop-p-preserved
loop-p-preserved c =
    let ps : List Proposal = c.args.proposals.now in
    let i : ℕ = c.loop-p.p-index in
    let p : Proposal = c.p-item.result in
    let items : List (Credential × ℕ) = c.loop-p.refunds.items in
    let rest : List (Credential × ℕ) = map refund_of (drop (i + 1) ps) in
    let cut : drop i ps ≡ p ∷ drop (i + 1) ps = drop-cons ps i p c.loop-p-test.true ∙ (λ j. sym c.p-item.is j ∷ drop (sym (add-one i) j) ps) in
    ap (λ (l : List (Credential × ℕ)). l ++ rest) c.in_ok-push.ensures.items
    ∙ append_assoc items ((c.account.result.cred, c.deposit.result) ∷ []) rest
    ∙ (λ j. items ++ ((c.account.ensures j).cred, c.deposit.ensures j) ∷ rest)
    ∙ sym (ap (λ (l : List Proposal). items ++ map refund_of l) cut)
    ∙ c.loop-p.invariant

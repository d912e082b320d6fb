use Rattle.std.proofs.Common.{◌≡◌, ◌+◌, ◌<◌, ◌^◌, ℕ, List, map, ap, sym, subst, ◌∙◌}
use Rattle.gov_actions.specs.declared.action.Proposal.{Proposal}
use Rattle.gov_actions.specs.declared.state.EnactState.{EnactState}
use Rattle.gov_ids.specs.declared.ActionId.{ActionId}
use Rattle.gov_ids.specs.declared.Credential.{Credential}
use Rattle.payments.specs.Amounts.{all_amounts}
use Rattle.stake_book.specs.Stakes.{HasRoom, accounts_of}
use Rattle.payments.specs.Credited.{ArePaidOut}
use Rattle.epoch_pass.specs.Removals.{leaving_of, refunds_of, removed_by}
use Rattle.epoch_pass.proofs.removals.refunded.Goals as goal

-- the deposits are those of the proposals that leave by the state
due_by : (ps : List Proposal) (enacted over : List ActionId) (read state : EnactState) (due : List (Credential × ℕ)) → read ≡ state
    → due ≡ refunds_of (leaving_of ps enacted over read.last) → due ≡ refunds_of (leaving_of ps enacted over state.last)
due_by ps enacted over read state due same is = is ∙ ap (λ (s : EnactState). refunds_of (leaving_of ps enacted over s.last)) same

pub paid_out-requires : goal.paid_out-requires
paid_out-requires c =
    let due = due_by c.args.proposals.now c.args.ratified.now c.args.expired.now c.get.result.now c.args.state c.as_slice.result.now c.get.ensures (c.as_slice.ensures.value ∙ c.in_ok-refunds.ensures.refunds) in
    record {
      room = subst (λ (ps : List (Credential × ℕ)). HasRoom (all_amounts ps) c.args.stake) (sym due) c.requires.room;
      fits = subst (λ (ps : List (Credential × ℕ)). c.args.state.treasury + all_amounts ps < 2 ^ 64) (sym due) c.requires.fits;
    }

pub returns-clause-paid : goal.returns-clause-paid
returns-clause-paid c =
    subst (λ (ps : List (Credential × ℕ)). ArePaidOut ps c.args.stake c.args.state c.in_ok-stake.stake c.in_ok-stake.state)
    (due_by c.args.proposals.now c.args.ratified.now c.args.expired.now c.get.result.now c.args.state c.as_slice.result.now c.get.ensures (c.as_slice.ensures.value ∙ c.in_ok-refunds.ensures.refunds))
    (record { credited = c.in_ok-stake.ensures.accounts; outputs = c.in_ok-stake.ensures.outputs; frozen = c.in_ok-stake.ensures.frozen; held = c.in_ok-stake.ensures.state })

pub returns-clause-removed : goal.returns-clause-removed
returns-clause-removed c =
    c.in_ok-refunds.ensures.removed
    ∙ ap (λ (s : EnactState). map (removed_by (accounts_of c.args.stake) c.args.ratified.now c.args.expired.now) (leaving_of c.args.proposals.now c.args.ratified.now c.args.expired.now s.last)) c.get.ensures

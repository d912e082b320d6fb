use Rattle.std.proofs.Common.{ℕ, ◌+◌, ◌-◌, ap, ◌∙◌}
use Rattle.load_model.specs.Amounts.{fee, funds, left_by_proposal, place_before_proposal, proposal_deposit, proposal_name, spent_by_epochs}
use Rattle.load_model.specs.Stream.{proposing}
use Rattle.gen_load.proofs.epochs.push_proposal.Goals as goal

pub returns-clause-text : goal.returns-clause-text
returns-clause-text c =
    let e : ℕ = c.args.epoch in
    let accounts : ℕ = c.args.load.accounts in
    c.push_proposal_line.ensures.text
    ∙ ap (λ (n : ℕ). proposing n c.place_before-place.result c.left_after_proposal-left.result c.amount_of-amount.result) c.proposal_name_of-name.ensures.name
    ∙ ap (λ (n : ℕ). proposing (proposal_name accounts e) n c.left_after_proposal-left.result c.amount_of-amount.result) c.place_before-place.ensures
    ∙ ap (λ (n : ℕ). proposing (proposal_name accounts e) (place_before_proposal accounts e) n c.amount_of-amount.result) c.left_after_proposal-left.ensures
    ∙ ap (λ (n : ℕ). proposing (proposal_name accounts e) (place_before_proposal accounts e) (funds - (n + spent_by_epochs e + proposal_deposit + fee)) c.amount_of-amount.result) c.requires.spent
    ∙ ap (λ (n : ℕ). proposing (proposal_name accounts e) (place_before_proposal accounts e) (left_by_proposal c.args.load.seed accounts e) n) c.amount_of-amount.ensures

use Rattle.std.proofs.Common.{ℕ, ◌+◌, ◌-◌, ap, ◌∙◌}
use Rattle.load_model.specs.Amounts.{account_in_epoch, funds, left_by_votes, spent_by_epochs, votes_name}
use Rattle.load_model.specs.Stream.{voting}
use Rattle.gen_load.proofs.epochs.push_votes.Goals as goal

pub returns-clause-text : goal.returns-clause-text
returns-clause-text c =
    let e : ℕ = c.args.epoch in
    let seed : ℕ = c.args.load.seed in
    let accounts : ℕ = c.args.load.accounts in
    c.push_votes_line.ensures.text
    ∙ ap (λ (n : ℕ). voting n c.left_after_votes-left.result c.account_of_epoch-account.result c.drep_of_epoch-drep.result) c.votes_name_of-name.ensures.name
    ∙ ap (λ (n : ℕ). voting (votes_name accounts e) n c.account_of_epoch-account.result c.drep_of_epoch-drep.result) c.left_after_votes-left.ensures
    ∙ ap (λ (n : ℕ). voting (votes_name accounts e) (funds - (n + spent_by_epochs (e + 1))) c.account_of_epoch-account.result c.drep_of_epoch-drep.result) c.requires.spent
    ∙ ap (λ (n : ℕ). voting (votes_name accounts e) (left_by_votes seed accounts e) n c.drep_of_epoch-drep.result) c.account_of_epoch-account.ensures
    ∙ ap (λ (n : ℕ). voting (votes_name accounts e) (left_by_votes seed accounts e) (account_in_epoch seed accounts e) n) c.drep_of_epoch-drep.ensures

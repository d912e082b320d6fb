use Rattle.std.proofs.Common.{ℕ, ◌+◌, ap, sym, ◌∙◌}
use Rattle.load_model.specs.Amounts.{spent_before}
use Rattle.gen_load.proofs.Steps.{spent_more}
use Rattle.gen_load.proofs.next.spent_with.Goals as goal

pub returns-clause-spent : goal.returns-clause-spent
returns-clause-spent c =
    ap (λ (n : ℕ). n + c.spent_by.result) c.requires.spent
    ∙ ap (λ (n : ℕ). spent_before c.args.load.seed c.args.load.accounts c.args.registration + n) c.spent_by.ensures.spent
    ∙ sym (spent_more c.args.load.seed c.args.load.accounts c.args.registration)

use Rattle.std.proofs.Common.{ℕ, List, [], ◌∷◌, ◌++◌, ap, append_assoc, ◌∙◌}
use Rattle.load_model.specs.Amounts.{account_name}
use Rattle.load_model.specs.Stream.{account_output, output_of}
use Rattle.gen_load.proofs.registrations.push_account_output.Goals as goal

pub returns-clause-text : goal.returns-clause-text
returns-clause-text c =
    c.push.ensures.text
    ∙ ap (λ (l : List ℕ). l ++ 44 ∷ []) (
    c.push_output.ensures.text
    ∙ ap (λ (n : ℕ). c.args.line.now ++ output_of n c.weight_of-weight.result) c.name_of-name.ensures
    ∙ ap (λ (n : ℕ). c.args.line.now ++ output_of (account_name c.args.account) n) c.weight_of-weight.ensures.weight)
    ∙ append_assoc c.args.line.now (account_output c.args.seed c.args.account) (44 ∷ [])

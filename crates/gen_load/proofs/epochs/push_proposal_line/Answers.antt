use Rattle.std.proofs.Common.{ℕ, List, ◌++◌, ap, ◌∙◌}
use Rattle.load_model.specs.Stream.{proposing}
use Rattle.gen_load.proofs.epochs.push_proposal_line.Goals as goal

pub returns-clause-text : goal.returns-clause-text
returns-clause-text c = c.push_parts.ensures.text ∙ ap (λ (l : List ℕ). l ++ proposing c.args.name c.args.place c.args.left c.args.amount) c.requires.empty

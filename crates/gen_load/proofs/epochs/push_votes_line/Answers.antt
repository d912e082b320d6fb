use Rattle.std.proofs.Common.{ℕ, List, ◌++◌, ap, ◌∙◌}
use Rattle.load_model.specs.Stream.{voting}
use Rattle.gen_load.proofs.epochs.push_votes_line.Goals as goal

pub returns-clause-text : goal.returns-clause-text
returns-clause-text c = c.push_parts.ensures.text ∙ ap (λ (l : List ℕ). l ++ voting c.args.name c.args.left c.args.account c.args.drep) c.requires.empty

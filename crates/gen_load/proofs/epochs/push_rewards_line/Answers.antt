use Rattle.std.proofs.Common.{ℕ, List, ◌++◌, ap, ◌∙◌}
use Rattle.load_model.specs.Stream.{rewarding}
use Rattle.gen_load.proofs.epochs.push_rewards_line.Goals as goal

pub returns-clause-text : goal.returns-clause-text
returns-clause-text c = c.push_parts.ensures.text ∙ ap (λ (l : List ℕ). l ++ rewarding c.args.epoch c.args.account) c.requires

use Rattle.std.proofs.Common.{ℕ, List, ◌++◌, ap, ◌∙◌}
use Rattle.load_model.specs.Stream.{block_line}
use Rattle.gen_load.proofs.epochs.push_block_line.Goals as goal

pub returns-clause-text : goal.returns-clause-text
returns-clause-text c = c.push_parts.ensures.text ∙ ap (λ (l : List ℕ). l ++ block_line c.args.slot c.args.pulse) c.requires

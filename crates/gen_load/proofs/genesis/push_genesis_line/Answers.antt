use Rattle.std.proofs.Common.{List, ℕ, ◌++◌, ap, ◌∙◌}
use Rattle.std.specs.Fmt.{digits}
use Rattle.load_model.specs.Genesis.{genesis_line}
use Rattle.gen_load.proofs.genesis.push_genesis_line.Goals as goal

pub returns-clause-text : goal.returns-clause-text
unfolding digits
returns-clause-text c = c.push_parts.ensures.text ∙ ap (λ (l : List ℕ). l ++ genesis_line) c.requires

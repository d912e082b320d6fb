use Rattle.std.proofs.Common.{ℕ, List, ◌++◌, ap, ◌∙◌}
use Rattle.load_model.specs.Stream.{transaction_begun}
use Rattle.gen_load.proofs.registrations.begin.Goals as goal

pub returns-clause-text : goal.returns-clause-text
returns-clause-text c = c.push_parts.ensures.text ∙ ap (λ (l : List ℕ). l ++ transaction_begun c.args.name c.args.place) c.requires.empty

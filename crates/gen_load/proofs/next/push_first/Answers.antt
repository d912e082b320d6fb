use Rattle.std.proofs.Common.{ℕ, List, [], ◌∷◌, ◌++◌, ap, ◌∙◌}
use Rattle.load_model.specs.Genesis.{genesis_line}
use Rattle.gen_load.specs.Position.{lines_from}
use Rattle.gen_load.specs.declared.position.NextLine.TheVariants.{Genesis, Registration}
use Rattle.gen_load.proofs.Steps.{genesis_step, given}
use Rattle.gen_load.proofs.next.push_first.Goals as goal

pub returns-clause-gives : goal.returns-clause-gives
returns-clause-gives c =
    given (lines_from c.args.load Genesis) genesis_line (lines_from c.args.load (Registration 0)) c.push.new.self (genesis_step c.args.load)
    (c.push.ensures.text ∙ ap (λ (l : List ℕ). l ++ 10 ∷ []) c.push_genesis_line.ensures.text)

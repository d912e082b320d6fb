use Rattle.std.proofs.Common.{ℕ, ◌<◌, List, [], ◌∷◌, ◌++◌, ap, arith, subst, sym, ◌∙◌}
use Rattle.gen_load.specs.Position.{Gives, after_epoch_line, bytes_from, line_of_epoch, lines_from}
use Rattle.gen_load.specs.declared.position.NextLine.{NextLine}
use Rattle.gen_load.specs.declared.position.NextLine.TheVariants.{Epoch}
use Rattle.gen_load.proofs.Steps.{epoch_step, given}
use Rattle.gen_load.proofs.next.push_of_epoch.Goals as goal

pub returns-clause-gives : goal.returns-clause-gives
returns-clause-gives c =
    let below : c.args.epoch < c.args.load.epochs = omega arith in
    subst (λ (next : NextLine). Gives (bytes_from c.args.load (Epoch c.args.epoch c.args.part)) c.push.new.self (bytes_from c.args.load next)) (sym c.line_after.ensures)
    (given (lines_from c.args.load (Epoch c.args.epoch c.args.part)) (line_of_epoch c.args.load c.args.epoch c.args.part)
    (lines_from c.args.load (after_epoch_line c.args.epoch c.args.part)) c.push.new.self
    (epoch_step c.args.load c.args.epoch c.args.part below) (c.push.ensures.text ∙ ap (λ (l : List ℕ). l ++ 10 ∷ []) c.push_epoch_line.ensures.text))

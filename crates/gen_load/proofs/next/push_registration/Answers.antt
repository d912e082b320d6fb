use Rattle.std.proofs.Common.{ℕ, List, [], ◌∷◌, ◌++◌, ap, subst, sym, ◌∙◌}
use Rattle.load_model.specs.Stream.{registration_line}
use Rattle.gen_load.specs.Position.{Gives, IsSoundPosition, after_registration, bytes_from, lines_from}
use Rattle.gen_load.specs.declared.position.NextLine.{NextLine}
use Rattle.gen_load.specs.declared.position.NextLine.TheVariants.{Registration}
use Rattle.gen_load.proofs.Steps.{given, registration_sound, registration_step}
use Rattle.gen_load.proofs.next.push_registration.Goals as goal

pub returns-clause-sound : goal.returns-clause-sound
returns-clause-sound c =
    subst (λ (next : NextLine). IsSoundPosition c.args.load (record { next = next; spent = c.spent_with-spent_now.result })) (sym c.line_after_registration.ensures)
    (registration_sound c.args.load c.args.registration c.spent_with-spent_now.result c.requires.load c.requires.registration c.spent_with-spent_now.ensures.spent c.spent_with-spent_now.ensures.most)

pub returns-clause-gives : goal.returns-clause-gives
returns-clause-gives c =
    subst (λ (next : NextLine). Gives (bytes_from c.args.load (Registration c.args.registration)) c.push.new.self (bytes_from c.args.load next)) (sym c.line_after_registration.ensures)
    (given (lines_from c.args.load (Registration c.args.registration)) (registration_line c.args.load.seed c.args.load.accounts c.args.registration)
    (lines_from c.args.load (after_registration c.args.load.accounts c.args.registration)) c.push.new.self
    (registration_step c.args.load c.args.registration c.requires.registration) (c.push.ensures.text ∙ ap (λ (l : List ℕ). l ++ 10 ∷ []) c.push_registration_line.ensures.text))

use Rattle.std.proofs.Common.{◌≡◌, Option, None, ap, sym, ◌∙◌, rules}
use Rattle.std.specs.Option.{option_and_then}
use Rattle.load_options.specs.Numbers.{number_in}
use Rattle.load_options.specs.Options.{options_of}
use Rattle.load_options.specs.declared.workers.TheConstants.{MOST_WORKERS}
use Rattle.load_options.proofs.Asked.{said, unsaid}
use Rattle.load_options.proofs.workers.workers_among.Goals as goal

pub returns-in_err-number_after-clause-workers : goal.returns-in_err-number_after-clause-workers
returns-in_err-number_after-clause-workers c =
    let none : c.from_residual.result ≡ None = search rules in
    none ∙ ap (λ (o : Option _). option_and_then (number_in 1 MOST_WORKERS) o) c.in_err-number_after.ensures
    ∙ sym (said (options_of c.args.words.now) (sym c.has_option.ensures ∙ c.if-has_option.true))

pub returns-in_ok-number_after-clause-workers : goal.returns-in_ok-number_after-clause-workers
returns-in_ok-number_after-clause-workers c =
    c.workers_in.ensures.workers ∙ ap (λ (o : Option _). option_and_then (number_in 1 MOST_WORKERS) o) c.in_ok-number_after.ensures
    ∙ sym (said (options_of c.args.words.now) (sym c.has_option.ensures ∙ c.if-has_option.true))

pub returns-else-has_option-clause-workers : goal.returns-else-has_option-clause-workers
returns-else-has_option-clause-workers c = sym (unsaid (options_of c.args.words.now) (sym c.has_option.ensures ∙ c.if-has_option.false))

-- The number of workers does not show.
use Rattle.std.proofs.Common.{[], Option, refl, ap, sym, ◌∙◌}
use Rattle.std.specs.Prelude.{unwrap_or}
use Rattle.text_model.specs.Words.{Text}
use Rattle.replay_loop.specs.Laws.{SummariesAreOne, TextsAreOne}

pub texts_are_one : TextsAreOne
texts_are_one bytes rest other written again first second = ap (λ (t : Option Text). unwrap_or t []) (sym first.text ∙ second.text)

pub summaries_are_one : SummariesAreOne
summaries_are_one c workers = refl

use Rattle.std.proofs.Common.{[], ◌∷◌, codes, decimal}
use Rattle.gov_ids.specs.Spelling.{action_id_text}
use Rattle.text_model.specs.Words.{fraction_text}
use Rattle.report.proofs.Handed.{put_as}
use Rattle.short_lines.proofs.putting.put_least.Goals as goal

pub returns : goal.returns
returns g c =
    put_as (λ i. (codes "shortfall" ∷ action_id_text c.args.id.now ∷ codes "least" ∷ decimal 0 ∷ codes "yes" ∷ decimal c.args.count.0 ∷ codes "of" ∷ decimal c.args.count.1 ∷ codes "need"
    ∷ fraction_text (c.num.ensures i) (c.den.ensures.value i) ∷ []) ∷ []) c.put_words.ensures

use Rattle.std.proofs.Common.{[], ◌∷◌, codes, decimal}
use Rattle.gov_ids.specs.Spelling.{action_id_text}
use Rattle.text_model.specs.Words.{fraction_text}
use Rattle.report.proofs.Handed.{put_as}
use Rattle.short_lines.proofs.putting.put_least_of.Goals as goal

pub returns : goal.returns
returns g c =
    put_as (λ i. (codes "shortfall" ∷ action_id_text c.args.id.now ∷ codes "least" ∷ decimal c.args.dreps ∷ codes "yes" ∷ decimal c.args.count.0 ∷ codes "of" ∷ decimal c.args.count.1 ∷ codes "need"
    ∷ fraction_text (c.num.ensures i) (c.den.ensures.value i) ∷ codes "short" ∷ decimal c.args.short ∷ []) ∷ []) c.put_words.ensures

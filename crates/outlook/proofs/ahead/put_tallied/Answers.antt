use Rattle.std.proofs.Common.{List, ◌∷◌, ap, map, refl, sym}
use Rattle.gov_actions.specs.declared.tally.Tally.{Tally}
use Rattle.text_model.specs.EpochLines.{epoch_words, tally_words}
use Rattle.report.proofs.Handed.{put_both, put_front}
use Rattle.outlook.proofs.ahead.put_tallied.Goals as goal

pub returns-in_err-put_one : goal.returns-in_err-put_one
returns-in_err-put_one g c =
    put_front (map tally_words c.args.report.now.tallies) refl c.in_err-put_one.ensures c.from_residual.ensures.1

pub returns : goal.returns
returns g c =
    put_both (ap (λ (ts : List Tally). epoch_words c.args.report.now ∷ map tally_words ts) (sym c.as_slice.ensures)) c.in_ok-put_one.ensures c.put_each.ensures

use Rattle.std.proofs.Common.{◌∷◌, [], map}
use Rattle.text_model.specs.EpochLines.{epoch_words, stake_words, tally_words}
use Rattle.report.proofs.Puts.{put_first, put_second, put_third}
use Rattle.report.proofs.boundaries.put_count.Goals as goal

pub returns-in_err-put_one : goal.returns-in_err-put_one
returns-in_err-put_one g c =
    put_first (epoch_words c.args.report.now ∷ [])
    (map stake_words c.args.report.now.stakes)
    (map tally_words c.args.report.now.tallies)
    c.in_err-put_one.ensures c.from_residual.ensures.1

pub returns-in_err-put_listed : goal.returns-in_err-put_listed
returns-in_err-put_listed g c =
    put_second (epoch_words c.args.report.now ∷ [])
    (map stake_words c.args.report.now.stakes)
    (map tally_words c.args.report.now.tallies)
    c.in_ok-put_one.ensures c.in_err-put_listed.ensures c.from_residual-in_err-put_listed.ensures.1

pub returns : goal.returns
returns g c =
    put_third (epoch_words c.args.report.now ∷ [])
    (map stake_words c.args.report.now.stakes)
    (map tally_words c.args.report.now.tallies)
    c.in_ok-put_one.ensures c.in_ok-put_listed.ensures c.put_listed-2.ensures

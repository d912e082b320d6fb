use Rattle.std.proofs.Common.{codes, map, refl}
use Rattle.text_model.specs.StateLines.{snapshot_words}
use Rattle.report.proofs.Puts.{put_first_as, put_second_as}
use Rattle.state_print.proofs.kept.put_younger.Goals as goal

pub returns-in_err-put_snapshot : goal.returns-in_err-put_snapshot
returns-in_err-put_snapshot g c =
    put_first_as _ (map (snapshot_words (codes "mark")) c.args.snapshots.now.mark)
    (map (snapshot_words (codes "set")) c.args.snapshots.now.set)
    refl c.in_err-put_snapshot.ensures c.from_residual.ensures.1

pub returns : goal.returns
returns g c =
    put_second_as _ (map (snapshot_words (codes "mark")) c.args.snapshots.now.mark) _
    (map (snapshot_words (codes "set")) c.args.snapshots.now.set)
    refl refl c.in_ok-put_snapshot.ensures c.put_snapshot-2.ensures

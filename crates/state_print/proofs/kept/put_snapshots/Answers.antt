use Rattle.std.proofs.Common.{[], ◌∷◌, ◌++◌, codes, map}
use Rattle.text_model.specs.StateLines.{noted_fees_words, snapshot_words}
use Rattle.report.proofs.Puts.{put_first, put_second, put_third}
use Rattle.state_print.proofs.kept.put_snapshots.Goals as goal

pub returns-in_err-put_younger : goal.returns-in_err-put_younger
returns-in_err-put_younger g c =
    put_first (map (snapshot_words (codes "mark")) c.args.snapshots.now.mark ++ map (snapshot_words (codes "set")) c.args.snapshots.now.set)
    (map (snapshot_words (codes "go")) c.args.snapshots.now.go)
    (noted_fees_words c.args.snapshots.now.fees ∷ [])
    c.in_err-put_younger.ensures c.from_residual.ensures.1

pub returns-in_err-put_snapshot : goal.returns-in_err-put_snapshot
returns-in_err-put_snapshot g c =
    put_second (map (snapshot_words (codes "mark")) c.args.snapshots.now.mark ++ map (snapshot_words (codes "set")) c.args.snapshots.now.set)
    (map (snapshot_words (codes "go")) c.args.snapshots.now.go)
    (noted_fees_words c.args.snapshots.now.fees ∷ [])
    c.in_ok-put_younger.ensures c.in_err-put_snapshot.ensures c.from_residual-in_err-put_snapshot.ensures.1

pub returns : goal.returns
returns g c =
    put_third (map (snapshot_words (codes "mark")) c.args.snapshots.now.mark ++ map (snapshot_words (codes "set")) c.args.snapshots.now.set)
    (map (snapshot_words (codes "go")) c.args.snapshots.now.go)
    (noted_fees_words c.args.snapshots.now.fees ∷ [])
    c.in_ok-put_younger.ensures c.in_ok-put_snapshot.ensures c.put_one.ensures

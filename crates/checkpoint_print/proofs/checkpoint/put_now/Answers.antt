use Rattle.std.proofs.Common.{append_assoc, ◌∷◌, ◌++◌, map}
use Rattle.checkpoint_model.specs.Checkpoint.{checkpoint_words, used_words}
use Rattle.report.proofs.Handed.{put_both, put_front}
use Rattle.run_model.specs.World.{World}
use Rattle.text_forms.specs.Snapshots.{action_words}
use Rattle.text_model.specs.StateLines.{state_lines}
use Rattle.checkpoint_print.proofs.checkpoint.put_now.Goals as goal

pub returns-in_err-put_head : goal.returns-in_err-put_head
returns-in_err-put_head g c =
    let w : World = c.args.s.now in
    put_front (map used_words w.ledger.used ++ map action_words w.ledger.proposals)
    (append_assoc (checkpoint_words w c.args.line ∷ state_lines w) (map used_words w.ledger.used) (map action_words w.ledger.proposals))
    c.in_err-put_head.ensures c.from_residual.ensures.1

pub returns : goal.returns
returns g c =
    let w : World = c.args.s.now in
    put_both (append_assoc (checkpoint_words w c.args.line ∷ state_lines w) (map used_words w.ledger.used) (map action_words w.ledger.proposals))
    c.in_ok-put_head.ensures c.put_live.ensures

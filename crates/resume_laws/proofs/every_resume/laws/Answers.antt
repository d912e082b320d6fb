use Rattle.resume_laws.proofs.LawsHold.{complete, cut_run_is_whole, done_is_whole, run_is_resumed, run_leaves_checkpoint}
use Rattle.resume_laws.proofs.every_resume.laws.Goals as goal

pub returns-clause-resumed : goal.returns-clause-resumed
returns-clause-resumed c = run_is_resumed c.whole_lines.ensures.adds_up c.whole_lines.ensures.cuts c.replay_is_resumed.ensures

pub returns-clause-checkpoint : goal.returns-clause-checkpoint
returns-clause-checkpoint c = run_leaves_checkpoint c.bytes_are_resumable.ensures

pub returns-clause-cut : goal.returns-clause-cut
returns-clause-cut c = λ w line more sound within. c.checkpoint_is_cut.ensures.cut w line more sound.short

pub returns-clause-whole : goal.returns-clause-whole
returns-clause-whole c = λ bytes w line more left had has sound within lines. done_is_whole bytes w line more sound within lines left had has

pub returns-clause-run : goal.returns-clause-run
returns-clause-run c =
    cut_run_is_whole (run_is_resumed c.whole_lines.ensures.adds_up c.whole_lines.ensures.cuts c.replay_is_resumed.ensures)
    (run_leaves_checkpoint c.bytes_are_resumable.ensures) (λ w line more sound within. c.checkpoint_is_cut.ensures.cut w line more sound.short)

pub returns-clause-complete : goal.returns-clause-complete
returns-clause-complete c = λ bytes w line more left had has result sound within lines short. complete bytes w line more sound within lines left had has c.whole_lines.ensures.adds_up short result

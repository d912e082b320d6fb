use Rattle.std.proofs.Common.{◌∷◌, [], ◌++◌, List, codes, map}
use Rattle.checkpoint_model.specs.Checkpoint.{checkpoint_words, frozen_lines, used_words}
use Rattle.report.proofs.Puts.{put_first, put_second, put_third}
use Rattle.text_forms.specs.Snapshots.{action_words}
use Rattle.text_model.specs.StateLines.{state_lines}
use Rattle.text_model.specs.Words.{Text}
use Rattle.run_model.specs.World.{World}
use Rattle.checkpoint_print.proofs.checkpoint.put_checkpoint.Goals as goal

abbrev ends : List (List Text)
ends = (codes "end" ∷ []) ∷ []

pub returns-in_err-put_bare_now : goal.returns-in_err-put_bare_now
returns-in_err-put_bare_now g c =
    let w : World = c.args.s.now in
    put_first ((checkpoint_words w c.args.line ∷ state_lines w) ++ map used_words w.ledger.used ++ map action_words w.ledger.proposals) (frozen_lines w.frozen) ends
    c.in_err-put_bare_now.ensures c.from_residual.ensures.1

pub returns-in_err-put_frozen : goal.returns-in_err-put_frozen
returns-in_err-put_frozen g c =
    let w : World = c.args.s.now in
    put_second ((checkpoint_words w c.args.line ∷ state_lines w) ++ map used_words w.ledger.used ++ map action_words w.ledger.proposals) (frozen_lines w.frozen) ends
    c.in_ok-put_bare_now.ensures c.in_err-put_frozen.ensures c.from_residual-in_err-put_frozen.ensures.1

pub returns : goal.returns
returns g c =
    let w : World = c.args.s.now in
    put_third ((checkpoint_words w c.args.line ∷ state_lines w) ++ map used_words w.ledger.used ++ map action_words w.ledger.proposals) (frozen_lines w.frozen) ends
    c.in_ok-put_bare_now.ensures c.in_ok-put_frozen.ensures c.put_bare.ensures

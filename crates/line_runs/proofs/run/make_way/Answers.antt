use Rattle.std.proofs.Common.{◌≡◌, false, arith}
use Rattle.std.proofs.lemmas.Result.{on_ok_weaker}
use Rattle.byte_lines.specs.Pieces.{has_feed}
use Rattle.byte_lines.proofs.PieceLemmas.{no_feed}
use Rattle.line_runs.proofs.run.make_way.Goals as goal

pub returns-in-None-clause-ok : goal.returns-in-None-clause-ok
returns-in-None-clause-ok g c =
    let none : has_feed c.args.ahead.now ≡ false = no_feed c.args.ahead.now (λ k below. c.in-None.ensures k (omega arith) below) in
    on_ok_weaker c.hand_over.result (λ took. rw none (took, c.hand_over.ensures.none)) c.hand_over.ensures.ok

use Rattle.std.proofs.Common.{◌≤◌, length, ap, sym, ◌∙◌, arith}
use Rattle.stake_book.specs.Stakes.{Stakes}
use Rattle.undo_back.proofs.Rooms.{outputs_gone, outputs_going}
use Rattle.undo_back.proofs.stake.take_outputs.Goals as goal

pub loop-r-preserved : goal.loop-r-preserved
loop-r-preserved c =
    let e = c.in_ok-spend.ensures in
    let h = c.loop-r.invariant in
    record {
      outputs = outputs_going c.args.olds.now c.loop-r.r-index _ c.loop-r-item.result c.loop-r.stake.outputs c.spend.new.self.outputs c.loop-r-test.true c.loop-r-item.is (ap (λ (s : Stakes). s.outputs) e.ok) ∙ h.outputs;
      accounts = e.registered ∙ h.accounts;
      frozen = e.frozen ∙ h.frozen;
    }

pub returns-clause-outputs : goal.returns-clause-outputs
returns-clause-outputs c =
    let all : length c.args.olds.now ≤ c.loop-r.r-index = omega arith in
    sym (outputs_gone c.args.olds.now c.loop-r.r-index c.loop-r.stake.outputs all) ∙ c.loop-r.invariant.outputs

use Rattle.std.proofs.Common.{sym, subst, ◌∙◌}
use Rattle.ledger_model.specs.Moves.{IsMovedBy}
use Rattle.ledger_model.specs.Supply.{pots_of}
use Rattle.run_model.specs.BoundaryFlows.{flows_of_boundary}
use Rattle.run_model.specs.SoundWorld.{IsSoundWorld}
use Rattle.run_model.specs.World.{World}
use Rattle.epoch_rule.proofs.Crossing.{boundary_moves}
use Rattle.epoch_rule.proofs.rule.cross.Goals as goal

pub begin_epoch-requires : goal.begin_epoch-requires
begin_epoch-requires g c = record {
  some = c.requires.some;
  few = c.requires.few;
  sound = subst (λ (v : World). IsSoundWorld v) (sym c.in_ok-ended.ensures.begun) (c.boundaries_keep_sound.ensures c.args.s c.live-sound.ensures.sound c.requires.early);
}

pub returns-in-Ok-begin_epoch-clause-moved : goal.returns-in-Ok-begin_epoch-clause-moved
returns-in-Ok-begin_epoch-clause-moved g c =
    subst (λ (v : World). IsMovedBy (flows_of_boundary c.args.s) (pots_of c.args.s.ledger) (pots_of v.ledger)) (sym (c.reported.ensures.state ∙ c.in-Ok-begin_epoch.ensures ∙ c.in_ok-ended.ensures.begun))
    (boundary_moves c.boundary_balances.ensures c.payments_are_covered.ensures c.args.s c.live-sound.ensures.sound)

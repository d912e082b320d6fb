use Rattle.std.proofs.Common.{arith, sym, subst}
use Rattle.run_model.specs.SoundWorld.{IsSoundWorld}
use Rattle.run_model.specs.World.{World}
use Rattle.epoch_rule.proofs.rule.cross_alone.Goals as goal

pub begin_epoch-requires : goal.begin_epoch-requires
begin_epoch-requires c = record {
  some = omega arith;
  few = omega arith;
  sound = subst (λ (v : World). IsSoundWorld v) (sym c.in_ok-ended.ensures.begun) (c.boundaries_keep_sound.ensures c.args.s c.live-sound.ensures.sound c.requires.early);
}

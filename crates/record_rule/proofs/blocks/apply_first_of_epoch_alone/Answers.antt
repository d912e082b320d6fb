use Rattle.record_rule.proofs.Crossed.{first_stepped, stays_after}
use Rattle.record_rule.proofs.blocks.apply_first_of_epoch_alone.Goals as goal

pub apply_crossed-requires-clause-begun : goal.apply_crossed-requires-clause-begun
apply_crossed-requires-clause-begun c = stays_after c.args.ledger c.in_ok-crossed.crossed c.args.slot c.in_ok-crossed.ensures.world c.requires.enters

pub returns-clause-stepped : goal.returns-clause-stepped
returns-clause-stepped c =
    first_stepped c.args.ledger c.in_ok-crossed.crossed c.args.slot c.args.pulse (c.apply_crossed.result.ledger, c.apply_crossed.result.reply) c.in_ok-crossed.ensures.world c.apply_crossed.ensures.stepped
    c.requires.unbroken c.requires.enters

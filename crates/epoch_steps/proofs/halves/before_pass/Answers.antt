use Rattle.std.proofs.Common.{◌≡◌, ap, ◌∙◌, arith}
use Rattle.gov_model.specs.Snapshot.{Snapshot}
use Rattle.epoch_ends.specs.of_ledger_books.Parts.{ledger_of_books, world_of_books}
use Rattle.run_model.specs.Boundary.{after_snapshots, terms_turned}
use Rattle.run_model.specs.Genesis.{no_snapshot}
use Rattle.run_model.specs.World.{World}
use Rattle.epoch_books.specs.Retirements.{retired_in}
use Rattle.epoch_steps.proofs.Chained.{epoch_stays, first_two, first_three}
use Rattle.epoch_steps.proofs.halves.before_pass.Goals as goal

pub pools_reaped-requires : goal.pools_reaped-requires
pools_reaped-requires c =
    let f : Snapshot = no_snapshot c.args.b.state in
    let world : world_of_books c.in_ok-turned.turned 0 f ≡ after_snapshots (world_of_books c.args.b 0 f) = first_two c.args.b c.in_ok-applied.applied c.in_ok-turned.turned c.in_ok-applied.ensures.world c.in_ok-turned.ensures.world 0 f in
    record {
      holds = c.in_ok-turned.ensures.holds c.in_ok-applied.ensures.holds;
      epoch = omega (arith, ap (λ (v : World). v.ledger.epoch) world, epoch_stays c.args.b.pending (ledger_of_books c.args.b), c.requires.early);
    }

pub returns-clause-world : goal.returns-clause-world
returns-clause-world c = first_three c.args.b c.in_ok-applied.applied c.in_ok-turned.turned c.in_ok-reaped.reaped c.in_ok-applied.ensures.world c.in_ok-turned.ensures.world c.in_ok-reaped.ensures.world

pub returns-clause-retired : goal.returns-clause-retired
returns-clause-retired c = λ counted f.
    c.in_ok-reaped.ensures.retired
    ∙ ap (λ (v : World). retired_in (terms_turned v.ledger)) (first_two c.args.b c.in_ok-applied.applied c.in_ok-turned.turned c.in_ok-applied.ensures.world c.in_ok-turned.ensures.world counted f)

pub returns-clause-frozen : goal.returns-clause-frozen
returns-clause-frozen c = c.in_ok-reaped.ensures.frozen ∙ c.in_ok-turned.ensures.frozen ∙ c.in_ok-applied.ensures.frozen

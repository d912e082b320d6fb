use Rattle.std.proofs.Common.{◌≡◌, [], ap, sym, subst, ◌∙◌}
use Rattle.epoch_start.specs.Begun.{begun_of}
use Rattle.ledger_model.specs.Ledger.{Ledger}
use Rattle.live_ledger.specs.Standing.{Standing}
use Rattle.run_laws.proofs.Sound.{genesis_begins_sound}
use Rattle.run_model.specs.Boundary.{pool_stakes}
use Rattle.run_model.specs.Genesis.{world_of_genesis}
use Rattle.run_model.specs.SoundWorld.{IsSoundWorld}
use Rattle.run_model.specs.World.{World}
use Rattle.snapshots.specs.declared.stakes.Snapshots.{Snapshots}
use Rattle.ledger_state.proofs.Worlds.{genesis_begins}
use Rattle.ledger_state.proofs.state.LedgerState.from_genesis.Goals as goal

begins : (c : goal.In_ok-books) → begun_of c.in_ok-books.books ≡ world_of_genesis c.args.genesis.now
begins c =
    let live = ap (λ (s : Standing). s.ledger) c.in_ok-live.ensures.1 in
    genesis_begins c.in_ok-books.books c.args.genesis.now (c.in_ok-books.ensures.ledger ∙ live)
    (c.in_ok-books.ensures.marks ∙ ap (λ (l : Ledger). let s : Snapshots = record { mark = pool_stakes l; set = []; go = []; fees = 0 } in s) live)
    c.in_ok-books.ensures.pending

pub begin_epoch-requires-clause-sound : goal.begin_epoch-requires-clause-sound
begin_epoch-requires-clause-sound c =
    subst (λ (w : World). IsSoundWorld w) (sym (begins c)) (genesis_begins_sound c.args.genesis.now c.requires.within c.in_ok-live.ensures.0)

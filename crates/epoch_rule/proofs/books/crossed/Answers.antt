use Rattle.std.proofs.lemmas.Result.{IfOk-weaker}
use Rattle.ledger_books.specs.Parts.{world_of_books}
use Rattle.epoch_rule.proofs.books.crossed.Goals as goal

pub decide-requires : goal.decide-requires
decide-requires c =
    let a = c.requires.sound.2 in
    record {
      counted = c.sound_can_be_counted.ensures (world_of_books c.args.b c.requires.sound.0 c.requires.sound.1) c.args.f.now c.args.c.now a.sound a.frozen;
      cells = c.requires.cells;
    }

pub applied-requires : goal.applied-requires
applied-requires c =
    let a = c.requires.sound.2 in
    record {
      sound = (c.requires.sound.0, c.requires.sound.1, record { sound = a.sound; decided = c.in-Ok.ensures c.requires.sound.1 a.frozen });
      early = c.requires.early;
    }

pub returns-in-Ok-clause-begun : goal.returns-in-Ok-clause-begun
returns-in-Ok-clause-begun c =
    IfOk-weaker c.applied.result _ _ (λ r h counted s a. h counted s (record { sound = a.sound; decided = c.in-Ok.ensures s a.frozen })) c.applied.ensures.begun

pub returns-in-Ok-clause-lists : goal.returns-in-Ok-clause-lists
returns-in-Ok-clause-lists c =
    IfOk-weaker c.applied.result _ _ (λ r h counted s a. h counted s (record { sound = a.sound; decided = c.in-Ok.ensures s a.frozen })) c.applied.ensures.lists

use Rattle.epoch_start.specs.Begun.{begun_of}
use Rattle.epoch_start.proofs.Begun.{has_frozen}
use Rattle.epoch_start.proofs.counts.begun_count.Goals as goal

pub returns : goal.returns
returns c = record {
  counts = c.begin.ensures.counts (begun_of c.args.b.now).frozen
      (has_frozen c.args.b.now c.book.result.now c.in_ok-deposits.deposits c.book.ensures.kept c.requires.sound c.book.ensures.value c.requires.frozen c.in_ok-deposits.ensures.amounts c.in_ok-deposits.ensures.total);
  none_visited = c.begin.ensures.none_visited;
}

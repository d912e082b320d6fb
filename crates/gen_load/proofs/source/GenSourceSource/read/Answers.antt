use Rattle.std.proofs.Common.{ℕ, List, drop, ap, sym, ◌∙◌}
use Rattle.gen_load.specs.Position.{bytes_from}
use Rattle.gen_load.proofs.OneRead.{read_is}
use Rattle.gen_load.proofs.source.GenSourceSource.read.Goals as goal

pub returns-clause-reads : goal.returns-clause-reads
returns-clause-reads c =
    read_is c.args.self.now c.rest_of.result.now c.refill-offset.new.line (bytes_from c.self.inside.load c.refill-offset.result.1.next) c.copy_front-count.new.into
    c.refill-offset.result.0 c.copy_front-count.result (sym c.self.view_is ∙ c.refill-offset.ensures.bytes) (c.rest_of.ensures ∙ ap (λ (l : List ℕ). drop c.refill-offset.result.0 l) c.as_slice.ensures)
    c.copy_front-count.ensures.fits c.copy_front-count.ensures.same c.copy_front-count.ensures.end c.refill-offset.ensures.end

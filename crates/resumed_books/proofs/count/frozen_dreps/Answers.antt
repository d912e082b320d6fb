use Rattle.std.proofs.Common.{ap, map, ◌∙◌}
use Rattle.drep_book.specs.Dreps.{Dreps}
use Rattle.gov_ids.specs.Orders.{credential_cmp}
use Rattle.maps.specs.Maps.{with_values}
use Rattle.resumed_books.proofs.Counted.{as_drep, drep_next, dreps_done}
use Rattle.resumed_books.proofs.count.frozen_dreps.Goals as goal

pub loop-credential-init : goal.loop-credential-init
loop-credential-init c = ap (λ (b : Dreps). with_values credential_cmp (map as_drep c.args.dreps.now) b.dreps) c.new-book.ensures

pub loop-credential-preserved : goal.loop-credential-preserved
loop-credential-preserved c =
    drep_next c.args.dreps.now c.loop-credential.credential-index _ c.loop-credential.book.dreps c.put.new.self.dreps c.loop-credential-test.true (ap (λ (b : Dreps). b.dreps) c.in_ok-put.ensures.ok)
    ∙ c.loop-credential.invariant

pub returns : goal.returns
returns c = λ q. dreps_done c.args.dreps.now c.loop-credential.credential-index c.loop-credential.book.dreps q c.loop-credential-test.false c.loop-credential.invariant

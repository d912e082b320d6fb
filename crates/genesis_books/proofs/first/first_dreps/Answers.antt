use Rattle.std.proofs.Common.{◌∙◌}
use Rattle.genesis_books.proofs.FirstBook.{dreps_next, with_listed_dreps}
use Rattle.genesis_books.proofs.first.first_dreps.Goals as goal

pub loop-credential-init : goal.loop-credential-init
loop-credential-init c = λ i. with_listed_dreps (c.as_slice-credential-items.ensures i) (c.new-dreps.ensures i)

pub loop-credential-preserved : goal.loop-credential-preserved
loop-credential-preserved c =
    dreps_next c.as_slice-credential-items.result.now c.loop-credential.credential-index _ c.loop-credential.dreps c.put.new.self c.loop-credential-test.true c.in_ok-put.ensures.ok
    ∙ c.loop-credential.invariant

use Rattle.std.proofs.Common.{ap, ◌∙◌}
use Rattle.drep_book.specs.Dreps.{Dreps}
use Rattle.gov_ids.specs.Orders.{credential_cmp}
use Rattle.gov_ids.proofs.Exacts.{credential_exact}
use Rattle.gov_ids.proofs.Totals.{credential_total}
use Rattle.maps.specs.Maps.{with_values}
use Rattle.resumed_books.proofs.Put.{listed_done, listed_next}
use Rattle.resumed_books.proofs.keyed.dreps_of.Goals as goal

pub loop-credential-init : goal.loop-credential-init
loop-credential-init c =
    let set = c.set_dormant.ensures in
    let new = c.new-book.ensures in
    record {
      rest = λ i. with_values credential_cmp (c.as_slice-credential-items.ensures i) ((set ∙ (λ j. record (new j) { dormant = c.args.dormant })) i).dreps;
      dormant = ap (λ (b : Dreps). b.dormant) set;
    }

pub loop-credential-preserved : goal.loop-credential-preserved
loop-credential-preserved c =
    let put = c.in_ok-put.ensures.ok in
    let h = c.loop-credential.invariant in
    record {
      rest = listed_next credential_cmp c.as_slice-credential-items.result.now c.loop-credential.credential-index _ c.loop-credential.book.dreps c.put.new.self.dreps c.loop-credential-test.true (ap (λ (b : Dreps). b.dreps) put)
          ∙ h.rest;
      dormant = ap (λ (b : Dreps). b.dormant) put ∙ h.dormant;
    }

pub returns : goal.returns
returns c =
    let h = c.loop-credential.invariant in
    let dreps = listed_done credential_total credential_exact c.as_slice-credential-items.result.now c.args.dreps c.loop-credential.credential-index c.loop-credential.book.dreps c.loop-credential-test.false c.requires h.rest in
    λ i. record { dreps = dreps i; dormant = h.dormant i }

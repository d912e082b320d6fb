use Rattle.std.proofs.Common.{List, ap, sym, ◌∙◌}
use Rattle.book_records.specs.declared.DrepState.{DrepState}
use Rattle.drep_book.specs.Dreps.{Dreps}
use Rattle.gov_ids.specs.declared.Credential.{Credential}
use Rattle.gov_ids.specs.Orders.{credential_cmp}
use Rattle.maps.specs.Maps.{has_key, with_values}
use Rattle.snapshot_counts.specs.Kept.{registered}
use Rattle.snapshot_counts.proofs.Kept.{registered_has}
use Rattle.snapshot_counts.proofs.counts.dreps_of.Goals as goal

pub returns : goal.returns
returns c = λ q.
    registered_has c.args.dreps.now q
    ∙ ap (λ (b : Dreps). has_key credential_cmp (with_values credential_cmp (registered c.args.dreps.now) b.dreps) q) (sym c.new-book.ensures)
    ∙ ap (λ (es : List (Credential × DrepState)). has_key credential_cmp es q) (sym c.in_ok-add_dreps.ensures)

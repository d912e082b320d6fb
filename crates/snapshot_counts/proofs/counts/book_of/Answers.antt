use Rattle.std.proofs.Common.{List, ap, ◌∙◌}
use Rattle.accounts.specs.Accounts.{Accounts}
use Rattle.book_records.specs.declared.Entry.{Entry}
use Rattle.gov_ids.specs.declared.Credential.{Credential}
use Rattle.gov_ids.specs.Orders.{credential_cmp}
use Rattle.gov_ids.proofs.Exacts.{credential_exact}
use Rattle.gov_ids.proofs.Totals.{credential_total}
use Rattle.maps.specs.Maps.{with_values}
use Rattle.snapshot_counts.specs.Kept.{kept_entries}
use Rattle.snapshot_counts.proofs.Kept.{kept_map, made_of}
use Rattle.snapshot_counts.proofs.Sound.{map_from}
use Rattle.snapshot_counts.proofs.counts.book_of.Goals as goal

pub returns : goal.returns
returns c =
    let entries : List (Credential × Entry) = c.args.entries in
    c.freeze.ensures.frozen
    ∙ c.in_ok-add_entries.ensures
    ∙ ap (λ (es : List (Credential × Entry)). with_values credential_cmp (kept_entries es) c.new-book.result.live) c.as_slice.ensures
    ∙ ap (λ (a : Accounts). with_values credential_cmp (kept_entries entries) a.live) c.new-book.ensures
    ∙ made_of credential_total credential_exact (kept_entries entries) (kept_map entries (map_from credential_cmp entries c.requires))

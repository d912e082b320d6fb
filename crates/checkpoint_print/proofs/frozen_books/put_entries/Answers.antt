use Rattle.std.proofs.Common.{List, map, ap, ◌∙◌}
use Rattle.book_records.specs.declared.Entry.{Entry}
use Rattle.gov_ids.specs.declared.Credential.{Credential}
use Rattle.gov_ids.specs.Orders.{credential_cmp}
use Rattle.report.proofs.Handed.{put_as}
use Rattle.text_model.specs.StateLines.{account_words}
use Rattle.view_map.specs.View.{frozen_of}
use Rattle.checkpoint_print.proofs.Taken.{all_entries}
use Rattle.checkpoint_print.proofs.frozen_books.put_entries.Goals as goal

pub returns : goal.returns
returns g c =
    put_as (ap (λ (es : List (Credential × Entry)). map account_words es) (c.frozen_past.ensures ∙ all_entries credential_cmp (frozen_of credential_cmp c.args.book.now)))
    c.put_left.ensures

use Rattle.std.proofs.Common.{List, ap, ◌∙◌, arith}
use Rattle.gov_ids.specs.declared.Credential.{Credential}
use Rattle.gov_ids.specs.Orders.{credential_cmp}
use Rattle.book_records.specs.declared.Entry.{Entry}
use Rattle.view_map.specs.View.{frozen_of}
use Rattle.drep_pulser.specs.Facts.{held_by}
use Rattle.drep_pulser.proofs.Walking.{all_entries}
use Rattle.pass_replay.proofs.counts.begun.Goals as goal

pub loop-entry-init : goal.loop-entry-init
loop-entry-init c =
    let all = c.into_iter-entry-iterator.ensures.into_iter_gives ∙ c.frozen_past-entry-items.ensures ∙ all_entries (frozen_of credential_cmp c.args.book.now) in
    omega (arith, c.total-held.ensures.sum, ap (λ (es : List (Credential × Entry)). held_by es) all)

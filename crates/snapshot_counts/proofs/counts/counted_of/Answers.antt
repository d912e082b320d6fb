-- The book has the snapshot's entries as it keeps them; what they count to is the same.
use Rattle.std.proofs.Common.{◌≡◌, ℕ, ◌+◌, ◌^◌, ◌<◌, List, ap, sym, ◌∙◌, subst, arith}
use Rattle.book_records.specs.declared.Entry.{Entry}
use Rattle.coin_frac.specs.Totals.{total_of}
use Rattle.drep_pulser.specs.Facts.{held_by as held_of}
use Rattle.gov_ids.specs.declared.Credential.{Credential}
use Rattle.gov_ids.specs.Orders.{credential_cmp}
use Rattle.maps.specs.Maps.{has_key, sum_values}
use Rattle.run_model.specs.SoundWorld.{held_by}
use Rattle.view_map.specs.View.{frozen_of}
use Rattle.snapshot_counts.specs.Kept.{kept_entries}
use Rattle.snapshot_counts.proofs.Kept.{has_frozen, kept_counted, kept_room, with_kept}
use Rattle.snapshot_counts.proofs.counts.counted_of.Goals as goal

pub finished-requires-clause-counts : goal.finished-requires-clause-counts
finished-requires-clause-counts c =
    let room : sum_values held_by c.args.entries + total_of c.in_ok-deposits.deposits < 2 ^ 64 = omega (arith, c.requires.room, c.in_ok-deposits.ensures.total) in
    let kept = kept_room c.args.entries (total_of c.in_ok-deposits.deposits) room in
    c.in_ok-counting.ensures.counts_in (subst (λ (es : List (Credential × Entry)). held_of es + total_of c.in_ok-deposits.deposits < 2 ^ 64) (sym c.in_ok-book.ensures) kept)

pub returns : goal.returns
returns c = λ s entries dreps proposals.
    let room : sum_values held_by s.entries + total_of c.in_ok-deposits.deposits < 2 ^ 64 =
    omega (arith, c.requires.room, c.in_ok-deposits.ensures.total, ap (sum_values held_by) entries) in
    let frozen : frozen_of credential_cmp c.in_ok-book.book ≡ kept_entries s.entries = c.in_ok-book.ensures ∙ ap kept_entries (sym entries) in
    let has =
    has_frozen s c.in_ok-book.book c.in_ok-registered.registered c.in_ok-deposits.deposits frozen
    (λ q. ap (λ (ds : List (Credential × ℕ)). has_key credential_cmp ds q) dreps ∙ c.in_ok-registered.ensures q) (λ q. c.in_ok-deposits.ensures.amounts s q proposals) room in
    kept_counted s c.finished.result (c.finished.ensures (with_kept s) (sym frozen) (c.in_ok-counting.ensures.counts (with_kept s) has))

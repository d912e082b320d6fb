use Rattle.std.proofs.Common.{◌≡◌, drop, fold}
use Rattle.gov_ids.specs.Orders.{txid_cmp}
use Rattle.maps.specs.Maps.{with_key}
use Rattle.stake_book.specs.Stakes.{with_used}
use Rattle.resumed_books.proofs.stake.with_used.Given as goal

-- the ids so far with those that are left are all
abbrev pub invariant-loop-id : goal.invariant-loop-id
invariant-loop-id l =
    with_used (fold (λ s k. with_key txid_cmp k s) l.stake.outputs.used (drop l.id-index l.id-items)) l.stake ≡ with_used (fold (λ s k. with_key txid_cmp k s) l.fn.stake.outputs.used l.fn.used) l.fn.stake

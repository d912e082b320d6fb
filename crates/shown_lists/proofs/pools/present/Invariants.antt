use Rattle.std.proofs.Common.{◌≡◌, ◌++◌, drop}
use Rattle.shown_lists.specs.Present.{present_entries}
use Rattle.shown_lists.proofs.pools.present.Given as goal

-- those so far, then those that are left
abbrev pub invariant-loop-shown : goal.invariant-loop-shown
invariant-loop-shown l = l.accounts.items ++ present_entries (drop l.shown-index l.pools) ≡ present_entries l.pools

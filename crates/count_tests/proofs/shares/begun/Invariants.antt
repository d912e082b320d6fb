use Rattle.std.proofs.Common.{◌≡◌, ◌+◌}
use Rattle.gov_ids.specs.Orders.{credential_cmp}
use Rattle.coin_frac.specs.Totals.{total_of}
use Rattle.view_map.specs.View.{frozen_of}
use Rattle.drep_pulser.specs.Facts.{held_by}
use Rattle.count_tests.proofs.shares.begun.Given as goal

-- what was added up, with what is left, is all
abbrev pub invariant-loop-entry : goal.invariant-loop-entry
invariant-loop-entry g l = l.held + held_by l.entry-iterator ≡ held_by (frozen_of credential_cmp l.book) + total_of l.deposits

use Rattle.std.proofs.Common.{◌≡◌, ℕ, ◌<◌, get_or}
use Rattle.shown_lists.specs.Shows.{MemberRow, row_shown}
use Rattle.shown_lists.proofs.hot.members_are_shown.Given as goal

-- each row so far is shown
abbrev pub invariant-loop-row : goal.invariant-loop-row
invariant-loop-row l = (j : ℕ) (d : MemberRow) → j < l.row-index → row_shown l.hot (get_or l.rows j d) ≡ get_or l.rows j d

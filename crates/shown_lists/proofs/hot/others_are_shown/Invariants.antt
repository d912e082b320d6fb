use Rattle.std.proofs.Common.{◌≡◌, drop}
use Rattle.shown_lists.specs.Shows.{others_shown}
use Rattle.shown_lists.proofs.hot.others_are_shown.Given as goal

-- all are these if and only if those that are left are the rest of these
abbrev pub invariant-loop-entry : goal.invariant-loop-entry
invariant-loop-entry l = record {
  all : others_shown l.members (drop l.entry-index l.hot) ≡ l.rest → others_shown l.members l.hot ≡ l.others;
  left : others_shown l.members l.hot ≡ l.others → others_shown l.members (drop l.entry-index l.hot) ≡ l.rest;
}

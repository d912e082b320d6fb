use Rattle.std.proofs.Common.{◌≡◌, map, take}
use Rattle.tally.specs.Cells.{cell_of}
use Rattle.tally.specs.Counted.{ForSnapshot}
use Rattle.tally.proofs.cells.fill_cells.Given as goal

-- the cells so far are written
abbrev pub invariant-loop-i : goal.invariant-loop-i
invariant-loop-i l = ForSnapshot l.f l.c (λ s. take l.i l.cells ≡ map (cell_of s) (take l.i l.proposals))

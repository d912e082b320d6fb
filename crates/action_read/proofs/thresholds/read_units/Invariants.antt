use Rattle.std.proofs.Common.{◌≡◌, ◌++◌, Ok, drop, length}
use Rattle.json_tree.specs.View.{items_view}
use Rattle.json_fields.specs.Steps.{◌>>=◌}
use Rattle.action_read.specs.Params.{units_in}
use Rattle.action_read.proofs.thresholds.read_units.Given as goal

-- the units so far, and those of what is left, are the units of all
abbrev pub invariant-loop-item : goal.invariant-loop-item
invariant-loop-item g l = record {
  made : length l.units.items ≡ l.item-index;
  rest : (units_in (items_view (drop l.item-index l.items)) >>= λ us. Ok (l.units.items ++ us)) ≡ units_in (items_view l.items);
}

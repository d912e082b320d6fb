use Rattle.std.proofs.Common.{◌≡◌, ◌++◌, codes, drop, flat_map}
use Rattle.action_lines.proofs.lists.push_others.Given as goal

-- what is added so far, and the items that are left, are all of them
abbrev pub invariant-loop-item : goal.invariant-loop-item
invariant-loop-item g l =
    l.out.items ++ flat_map (λ x. codes "," ++ g.J.Json.text x) (drop l.item-index l.items)
    ≡ l.fn.out.items ++ flat_map (λ x. codes "," ++ g.J.Json.text x) l.items

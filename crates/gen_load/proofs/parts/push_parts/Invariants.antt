use Rattle.std.proofs.Common.{◌≡◌, ◌+◌, ◌≤◌, ◌++◌, drop, flat_map, length, sum_by}
use Rattle.gen_load.specs.Parts.{part_room, part_text}
use Rattle.gen_load.proofs.parts.push_parts.Given as goal

-- what is added so far, and the parts that are left, are all of them
abbrev pub invariant-loop-part : goal.invariant-loop-part
invariant-loop-part l = record {
  text : l.line ++ flat_map part_text (drop l.part-index l.parts) ≡ l.fn.line ++ flat_map part_text l.parts;
  room : length l.line + sum_by part_room (drop l.part-index l.parts) ≤ length l.fn.line + sum_by part_room l.parts;
}

-- The parts of a line, as the program holds them. (Own)
use Rattle.std.specs.Prelude.{ℕ, List, decimal, length}
use Rattle.load_model.specs.Names.{hash28, hash32}
use Rattle.gen_load.specs.declared.parts.Part.{Part}
use Rattle.gen_load.specs.declared.parts.Part.TheVariants.{Text, Number, Hash28, Hash32}

-- its bytes
abbrev pub part_text : Part → List ℕ
part_text (Text text) = text.now
part_text (Number n) = decimal n
part_text (Hash28 n) = hash28 n
part_text (Hash32 n) = hash32 n

-- a bound on the number of its bytes
abbrev pub part_room : Part → ℕ
part_room (Text text) = length text.now
part_room (Number n) = 20
part_room (Hash28 n) = 56
part_room (Hash32 n) = 64

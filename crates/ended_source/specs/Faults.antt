-- The fault at a place. (Own)
use Rattle.byte_lines.specs.declared.lines.LineFault.{LineFault}
use Rattle.byte_lines.specs.declared.lines.LineFault.TheVariants.{NoMemory}
use Rattle.ended_source.specs.declared.place.Place.{Place}
use Rattle.ended_source.specs.declared.place.Place.TheVariants.{Failed}

-- the fault; out of memory if there is none
abbrev pub fault_at : Place → LineFault
fault_at (Failed fault) = fault
fault_at _ = NoMemory

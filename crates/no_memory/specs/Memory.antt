-- Out of memory.
use Rattle.no_memory.specs.declared.NoMemory.{NoMemory}

-- the one value of `NoMemory`
abbrev pub no_memory : NoMemory
no_memory = record {}

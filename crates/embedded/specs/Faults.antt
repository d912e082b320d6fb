-- Why lines gave no ledger. (Own)
use Rattle.embedded.specs.declared.fault.CheckpointFault.{CheckpointFault}
use Rattle.embedded.specs.declared.fault.CheckpointFault.TheVariants as faults

-- if memory runs out
abbrev pub fault_of_memory : CheckpointFault
fault_of_memory = faults.NoMemory

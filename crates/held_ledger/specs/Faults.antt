-- Why a genesis has no answer. (Own)
use Rattle.shortfall.specs.of_live_ledger.declared.fault.GenesisFault.{GenesisFault}
use Rattle.shortfall.specs.of_live_ledger.declared.fault.GenesisFault.TheVariants as genesis_faults
use Rattle.replay_loop.specs.declared.fault.AnswerFault.{AnswerFault}
use Rattle.replay_loop.specs.declared.fault.AnswerFault.TheVariants as answer_faults
use Rattle.replay_loop.specs.declared.status.GenesisCause.TheVariants.{Broken}

-- where a genesis gives no ledger
abbrev pub fault_of_genesis : GenesisFault → AnswerFault
fault_of_genesis (genesis_faults.Broken rule) = answer_faults.BadGenesis (Broken rule)
fault_of_genesis genesis_faults.NoMemory = answer_faults.NoMemory

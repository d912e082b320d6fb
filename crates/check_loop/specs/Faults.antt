-- Why not all texts were answered. (Own)
use Rattle.byte_lines.specs.declared.lines.LineFault.{LineFault}
use Rattle.byte_lines.specs.declared.lines.LineFault.TheVariants as line_faults
use Rattle.byte_lines.specs.declared.sink.SinkFault.{SinkFault}
use Rattle.byte_lines.specs.declared.sink.SinkFault.TheVariants as sink_faults
use Rattle.check_loop.specs.declared.fault.CheckFault.{CheckFault}
use Rattle.check_loop.specs.declared.fault.CheckFault.TheVariants as faults

-- if there is no next line
abbrev pub fault_of_line : LineFault → CheckFault
fault_of_line line_faults.ReadFault = faults.ReadFault
fault_of_line line_faults.TooMuch = faults.TooMuch
fault_of_line line_faults.NoMemory = faults.NoMemory

-- if an answer is not taken
abbrev pub fault_of_sink : SinkFault → CheckFault
fault_of_sink sink_faults.WriteFault = faults.WriteFault
fault_of_sink sink_faults.NoMemory = faults.NoMemory

use Rattle.curp_law_print.proofs.Headers.{header_is_line}
use Rattle.curp_law_print.proofs.Lines.{script_read}
use Rattle.curp_law_print.proofs.Steps.{steps_are_lines}
use Rattle.curp_law_print.proofs.printed_scripts_are_read.Goals as goal

pub returns : goal.returns
returns c h ss range names values count = script_read h ss (header_is_line h range) (steps_are_lines ss names values) count

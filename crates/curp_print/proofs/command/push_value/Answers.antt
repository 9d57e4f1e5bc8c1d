use Rattle.curp_print.proofs.Lines.{on_ok}
use Rattle.curp_print.proofs.ReadBack.{value_in-bytes}
use Rattle.curp_print.proofs.command.push_value.Goals as goal

pub returns-clause-reads : goal.returns-clause-reads
returns-clause-reads c = on_ok c.push_part.result (value_in-bytes c.args.value.now c.bytes.ensures.most c.bytes.ensures.range)

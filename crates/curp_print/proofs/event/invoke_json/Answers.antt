use Rattle.std.proofs.Common.{arith}
use Rattle.curp_print.proofs.Lines.{on_ok}
use Rattle.curp_print.proofs.Events.{invoke_line_reads}
use Rattle.curp_print.proofs.event.invoke_json.Goals as goal

pub returns-clause-reads : goal.returns-clause-reads
returns-clause-reads c =
    on_ok c.kind_json.result (invoke_line_reads c.args.id c.args.command.now (omega arith) (omega arith) c.in_ok-command_json.ensures.reads)

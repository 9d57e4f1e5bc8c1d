use Rattle.std.proofs.Common.{arith}
use Rattle.curp_print.proofs.Lines.{on_ok}
use Rattle.curp_print.proofs.ReadBack.{invoke_reads}
use Rattle.curp_print.proofs.line.invoke_json.Goals as goal

pub returns-clause-reads : goal.returns-clause-reads
returns-clause-reads c =
    on_ok c.kind_line.result (invoke_reads c.args.client c.args.command.now (omega arith) c.in_ok-command.ensures.reads)

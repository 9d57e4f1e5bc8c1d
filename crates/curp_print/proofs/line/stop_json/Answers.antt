use Rattle.std.proofs.Common.{arith}
use Rattle.curp_print.proofs.Lines.{on_ok}
use Rattle.curp_print.proofs.ReadBack.{stop_reads}
use Rattle.curp_print.proofs.line.stop_json.Goals as goal

pub returns-clause-reads : goal.returns-clause-reads
returns-clause-reads c = on_ok c.kind_line.result (stop_reads c.args.node (omega arith) c.requires)

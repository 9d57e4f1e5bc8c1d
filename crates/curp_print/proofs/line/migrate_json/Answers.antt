use Rattle.std.proofs.Common.{arith}
use Rattle.curp_print.proofs.Lines.{on_ok}
use Rattle.curp_print.proofs.ReadBack.{migrate_reads}
use Rattle.curp_print.proofs.line.migrate_json.Goals as goal

pub returns-clause-reads : goal.returns-clause-reads
returns-clause-reads c =
    on_ok c.kind_line.result (migrate_reads c.args.lo c.args.hi c.args.to (omega arith) (omega arith) (omega arith))

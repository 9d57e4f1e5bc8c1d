use Rattle.std.proofs.Common.{arith}
use Rattle.curp_print.proofs.Lines.{on_ok}
use Rattle.curp_print.proofs.Events.{complete_line_reads}
use Rattle.curp_print.proofs.event.complete_json.Goals as goal

pub returns-clause-reads : goal.returns-clause-reads
returns-clause-reads c =
    on_ok c.kind_json.result (complete_line_reads c.args.id c.args.answer.now (omega arith) (omega arith) c.in_ok-answer_json.ensures.reads)

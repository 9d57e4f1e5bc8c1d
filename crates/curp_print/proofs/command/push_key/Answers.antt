use Rattle.curp_print.proofs.Lines.{on_ok}
use Rattle.curp_print.proofs.ReadBack.{key_in-bytes}
use Rattle.curp_print.proofs.command.push_key.Goals as goal

pub returns-clause-reads : goal.returns-clause-reads
returns-clause-reads c =
    on_ok c.push_part.result (key_in-bytes c.args.key.now c.bytes.ensures.least c.bytes.ensures.most c.bytes.ensures.range)

use Rattle.curp_cluster.proofs.Seen.{marked_opening}
use Rattle.curp_cluster.proofs.marked.Marked.new.Goals as goal

pub returns : goal.returns
returns c = rw c.new-2.ensures.marks (marked_opening c.args.header.now c.in_ok-new.field-0 c.in_ok-new.ensures)

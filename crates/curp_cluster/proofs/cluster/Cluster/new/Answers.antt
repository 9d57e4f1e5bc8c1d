use Rattle.curp_cluster.proofs.Seen.{seen_opening}
use Rattle.curp_cluster.proofs.cluster.Cluster.new.Goals as goal

pub returns : goal.returns
returns c = rw (c.new-2.ensures, c.new-3.ensures.lists, c.new-4.ensures) (seen_opening c.args.header.now c.in_ok-new.field-0 c.in_ok-new.ensures)

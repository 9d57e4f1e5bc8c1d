use Rattle.curp_cmd.specs.Node.{witness_node}
use Rattle.curp_changes.proofs.Listed.{named_push}
use Rattle.curp_changes.proofs.names.witness_names.Goals as goal

pub loop-made-preserved : goal.loop-made-preserved
loop-made-preserved c = named_push witness_node c.args.first c.loop-made.made c.loop-made.names.items _ c.witness.result c.in_ok-push.ensures.items c.loop-made.invariant c.witness.ensures

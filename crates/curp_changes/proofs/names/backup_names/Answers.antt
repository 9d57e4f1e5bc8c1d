use Rattle.curp_cmd.specs.Node.{backup_node}
use Rattle.curp_changes.proofs.Listed.{named_push}
use Rattle.curp_changes.proofs.names.backup_names.Goals as goal

pub loop-made-preserved : goal.loop-made-preserved
loop-made-preserved c = named_push backup_node c.args.first c.loop-made.made c.loop-made.names.items _ c.backup.result c.in_ok-push.ensures.items c.loop-made.invariant c.backup.ensures

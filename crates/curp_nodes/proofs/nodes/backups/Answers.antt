use Rattle.curp_model.specs.Backup.{installed_backup}
use Rattle.curp_nodes.proofs.Numbers.{made_more}
use Rattle.curp_nodes.proofs.nodes.backups.Goals as goal

pub loop-made-preserved : goal.loop-made-preserved
loop-made-preserved c =
    rw c.in_ok-push.ensures.items
    (made_more c.loop-made.nodes.items (installed_backup 1) c.loop-made.made c.new.result c.loop-made.invariant.0 c.loop-made.invariant.1 c.new.ensures.number c.new.ensures.state)

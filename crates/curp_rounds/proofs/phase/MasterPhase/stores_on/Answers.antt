use Rattle.curp_rounds.proofs.Fresh.{among_fresh}
use Rattle.curp_rounds.proofs.phase.MasterPhase.stores_on.Goals as goal

pub returns-else-is_among : goal.returns-else-is_among
returns-else-is_among c =
    rw c.in-Switching.is
    (among_fresh c.args.backup.now c.args.backups.now c.in-Switching.switch.backups c.is_among-in-Switching.result c.is_among-else-is_among.result
    c.is_among-in-Switching.ensures c.if-is_among.false (rw c.as_slice.ensures at c.is_among-else-is_among.ensures))

use Rattle.std.proofs.Common.{refl}
use Rattle.curp_config.proofs.Ordered.{recover_stops}
use Rattle.curp_config.proofs.manager.Manager.recover.Goals as goal

pub returns-in_default-clause-moves : goal.returns-in_default-clause-moves
returns-in_default-clause-moves c =
    rw (recover_stops c.args.self.now c.args.part c.args.backup c.args.witness _ c.in-Ok.ensures.ok c.in_default.ensures) (refl, c.quiet.ensures)

use Rattle.std.proofs.Common.{sym}
use Rattle.curp_config.proofs.Entries.{opening_numbered}
use Rattle.curp_config.proofs.manager.Manager.new.Goals as goal

pub invariant_of-result : goal.invariant_of-result
invariant_of-result c =
    rw (c.in_ok-config.ensures, sym c.shape.view_is) (opening_numbered (record { f = c.shape.inside.f; parts = c.shape.inside.parts; clients = c.shape.inside.clients }))

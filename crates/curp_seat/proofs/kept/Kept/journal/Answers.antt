use Rattle.std.proofs.Common.{sym}
use Rattle.curp_journal.proofs.Replays.{stamped}
use Rattle.curp_seat.proofs.kept.Kept.journal.Goals as goal

pub returns-clause-stamped : goal.returns-clause-stamped
returns-clause-stamped g c =
    rw (sym c.self.view_is) (stamped g.N.Core.machine c.self.inside.opening.value 0 c.self.inside.items.items c.self.invariant.0.items_are)

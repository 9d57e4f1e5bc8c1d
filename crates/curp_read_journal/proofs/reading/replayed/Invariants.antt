use Rattle.std.proofs.Common.{◌≡◌}
use Rattle.curp_read_journal.specs.Items.{log_of}
use Rattle.curp_read_journal.proofs.reading.replayed.Given as goal

-- so many had their turn
abbrev pub invariant-loop-arrived : goal.invariant-loop-arrived
invariant-loop-arrived g l = l.kept ≡ log_of g.N.Core.machine l.fn.id l.fn.node l.yielded

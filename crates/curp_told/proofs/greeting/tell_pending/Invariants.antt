use Rattle.std.proofs.Common.{◌≡◌, ◌++◌}
use Rattle.curp_told.specs.Told.{parcels_of, pending_among, pending_told}
use Rattle.curp_told.proofs.greeting.tell_pending.Given as goal

-- so many requests had their turn
abbrev pub invariant-loop-before : goal.invariant-loop-before
invariant-loop-before l = l.text.items ≡ l.fn.text.items ++ parcels_of (pending_told (pending_among l.client l.before l.items))

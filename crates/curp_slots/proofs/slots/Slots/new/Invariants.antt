use Rattle.std.proofs.Common.{◌≡◌, [], replicate}
use Rattle.curp_slots.proofs.slots.Slots.new.Given as goal

-- so many sets are there
abbrev pub invariant-loop : goal.invariant-loop
invariant-loop l = l.taken.items ≡ replicate l.counter []

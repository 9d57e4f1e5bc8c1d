use Rattle.std.proofs.Common.{◌≡◌, ◌++◌, map, take, drop}
use Rattle.curp_slots.specs.Slots.{slots_left}
use Rattle.curp_slots.proofs.slots.free_in_each.Given as goal

-- the sets so far are done, and the others are as they were
abbrev pub invariant-loop-at : goal.invariant-loop-at
invariant-loop-at l = l.sets.items ≡ map (slots_left l.listed) (take l.at l.initial.sets.items) ++ drop l.at l.initial.sets.items

use Rattle.std.proofs.Common.{◌≡◌, ◌≤◌, length, take}
use Rattle.curp_slots.specs.Slots.{slots_left}
use Rattle.curp_slots.proofs.set.Set.free.Given as goal

-- the slots so far that are left
abbrev pub invariant-loop-slot : goal.invariant-loop-slot
invariant-loop-slot l = record {
  so_far : l.left ≡ slots_left l.listed (take l.slot-index l.slot-items);
  most : length l.left ≤ l.slot-index;
}

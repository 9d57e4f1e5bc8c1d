use Rattle.std.proofs.Common.{◌≡◌, ◌++◌, drop, map}
use Rattle.std.specs.List.{filter}
use Rattle.curp_line.specs.Slots.{is_shown_slot, shown_of}
use Rattle.curp_line.proofs.slot.shown.Given as goal

-- what is shown so far, and what is of the slots that are left
abbrev pub invariant-loop-slot : goal.invariant-loop-slot
invariant-loop-slot l = l.shown.items ++ map shown_of (filter is_shown_slot (drop l.slot-index l.slots)) ≡ map shown_of (filter is_shown_slot l.slots)

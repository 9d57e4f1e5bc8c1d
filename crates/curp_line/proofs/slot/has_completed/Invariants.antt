use Rattle.std.proofs.Common.{◌≡◌, take}
use Rattle.std.specs.List.{list_any}
use Rattle.curp_line.specs.Slots.{completes, is_of_request}
use Rattle.curp_line.proofs.Places.{IsPlace, reach}
use Rattle.curp_line.proofs.slot.has_completed.Given as goal

-- the next slot is one of the request, and none behind it says that it has completed
abbrev pub invariant-loop-next : goal.invariant-loop-next
invariant-loop-next l = record {
  next : IsPlace (is_of_request l.id) l.slots l.next;
  left : list_any (completes l.id) l.slots ≡ list_any (completes l.id) (take (reach l.next) l.slots);
}

abbrev pub decreases-loop-next : goal.decreases-loop-next
decreases-loop-next l = reach l.next

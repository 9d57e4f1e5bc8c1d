use Rattle.std.proofs.Common.{◌≡◌}
use Rattle.curp_line.specs.Slots.{flagged_slot, is_of_request}
use Rattle.curp_line.proofs.Places.{IsPlace, mapped_from, reach}
use Rattle.curp_line.proofs.slot.flag_marks.Given as goal

-- the next slot is one of the request, and all that the completion means behind it are flagged
abbrev pub invariant-loop-next : goal.invariant-loop-next
invariant-loop-next l = record {
  next : IsPlace (is_of_request l.completed.id) l.fn.slots l.next;
  flagged : l.slots ≡ mapped_from (reach l.next) (flagged_slot l.completed) l.fn.slots;
}

abbrev pub decreases-loop-next : goal.decreases-loop-next
decreases-loop-next l = reach l.next

use Rattle.std.proofs.Common.{◌≡◌}
use Rattle.curp_line.specs.Slots.{dropped_slot, is_of_part}
use Rattle.curp_line.proofs.Places.{IsPlace, mapped_from, reach}
use Rattle.curp_line.proofs.slot.drop_marks.Given as goal

-- the next slot is one of the partition, and all behind it that go are dropped
abbrev pub invariant-loop-next : goal.invariant-loop-next
invariant-loop-next l = record {
  next : IsPlace (is_of_part l.part) l.fn.slots l.next;
  dropped : l.slots ≡ mapped_from (reach l.next) (dropped_slot l.part l.cut) l.fn.slots;
}

abbrev pub decreases-loop-next : goal.decreases-loop-next
decreases-loop-next l = reach l.next

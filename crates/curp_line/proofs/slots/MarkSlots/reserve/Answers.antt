use Rattle.std.proofs.Common.{refl}
use Rattle.curp_line.proofs.Links.{linked_same}
use Rattle.curp_line.proofs.slots.MarkSlots.reserve.Goals as goal

pub invariant_of-self-in_err-reserve : goal.invariant_of-self-in_err-reserve
invariant_of-self-in_err-reserve c =
    rw c.make_room.ensures.items (linked_same _ _ _ _ _ (λ id. c.reserve.ensures.found (record { 0 = id })) (λ part. refl) c.self.invariant)

pub invariant_of-self-2 : goal.invariant_of-self-2
invariant_of-self-2 c =
    rw c.make_room.ensures.items (linked_same _ _ _ _ _ (λ id. c.reserve.ensures.found (record { 0 = id })) (λ part. c.reserve-2.ensures.found part) c.self.invariant)

use Rattle.std.proofs.Common.{get_or, ap, ◌∙◌, arith}
use Rattle.curp_line.specs.Slots.{dropped_slot, is_of_part}
use Rattle.curp_line.specs.declared.slot.MarkSlot.{MarkSlot}
use Rattle.curp_line.proofs.Kept.{other_not_dropped}
use Rattle.curp_line.proofs.Links.{parts_chain}
use Rattle.curp_line.proofs.Places.{HasChanged, change_begins, last_is_place, mapped_from, place_within, reach, walk_changes}
use Rattle.curp_line.proofs.slot.drop_marks.Goals as goal

pub loop-next-init : goal.loop-next-init
loop-next-init c = record {
  next = rw c.requires.latest (last_is_place (is_of_part c.args.part) c.args.slots.now);
  dropped = change_begins (is_of_part c.args.part) (λ (s : MarkSlot). s.earlier_of_part) (dropped_slot c.args.part c.args.cut) (other_not_dropped c.args.part c.args.cut) c.args.slots.now c.args.latest c.requires.latest;
}

pub bounds-slots-at : goal.bounds-slots-at
bounds-slots-at c =
    let l = place_within (is_of_part c.args.part) c.args.slots.now c.loop-next.next c.in-Some.at c.in-Some.is c.loop-next.invariant.next in
    omega (arith, l, c.loop-next.auto.slots)

walked : (c : goal.After-drop_past) → HasChanged (is_of_part c.args.part) (λ (s : MarkSlot). s.earlier_of_part) (dropped_slot c.args.part c.args.cut) c.args.slots.now c.loop-next.slots c.in-Some.at (get_or c.loop-next.slots c.in-Some.at c.index-slots-at.result)
walked c =
    walk_changes (is_of_part c.args.part) (λ (s : MarkSlot). s.earlier_of_part) (dropped_slot c.args.part c.args.cut) (other_not_dropped c.args.part c.args.cut)
    c.args.slots.now c.loop-next.slots c.loop-next.next c.in-Some.at c.index-slots-at.result
    (parts_chain c.args.part c.args.slots.now c.requires.linked) c.in-Some.is c.loop-next.invariant.next c.loop-next.invariant.dropped

pub loop-next-smaller : goal.loop-next-smaller
loop-next-smaller c = rw c.in-Some.is (let w = walked c in omega (arith, w.nearer))

pub loop-next-preserved : goal.loop-next-preserved
loop-next-preserved c = let w = walked c in record { next = w.next; dropped = rw c.drop_past.ensures w.done }

pub returns : goal.returns
returns c = c.loop-next.invariant.dropped ∙ ap (λ r. mapped_from (reach r) (dropped_slot c.args.part c.args.cut) c.args.slots.now) c.in_default.is

use Rattle.std.proofs.Common.{get_or, ap, ◌∙◌, arith}
use Rattle.curp_line.specs.Slots.{flagged_slot, is_of_request}
use Rattle.curp_line.specs.declared.slot.MarkSlot.{MarkSlot}
use Rattle.curp_line.proofs.Kept.{other_not_flagged}
use Rattle.curp_line.proofs.Links.{requests_chain}
use Rattle.curp_line.proofs.Places.{HasChanged, change_begins, last_is_place, mapped_from, place_within, reach, walk_changes}
use Rattle.curp_line.proofs.slot.flag_marks.Goals as goal

pub loop-next-init : goal.loop-next-init
loop-next-init c = record {
  next = rw c.requires.latest (last_is_place (is_of_request c.args.completed.now.id) c.args.slots.now);
  flagged = change_begins (is_of_request c.args.completed.now.id) (λ (s : MarkSlot). s.earlier_of_request) (flagged_slot c.args.completed.now) (other_not_flagged c.args.completed.now) c.args.slots.now c.args.latest c.requires.latest;
}

pub bounds-slots-at : goal.bounds-slots-at
bounds-slots-at c =
    let l = place_within (is_of_request c.args.completed.now.id) c.args.slots.now c.loop-next.next c.in-Some.at c.in-Some.is c.loop-next.invariant.next in
    omega (arith, l, c.loop-next.auto.slots)

walked : (c : goal.After-flag) → HasChanged (is_of_request c.args.completed.now.id) (λ (s : MarkSlot). s.earlier_of_request) (flagged_slot c.args.completed.now) c.args.slots.now c.loop-next.slots c.in-Some.at (get_or c.loop-next.slots c.in-Some.at c.index-slots-at.result)
walked c =
    walk_changes (is_of_request c.args.completed.now.id) (λ (s : MarkSlot). s.earlier_of_request) (flagged_slot c.args.completed.now) (other_not_flagged c.args.completed.now)
    c.args.slots.now c.loop-next.slots c.loop-next.next c.in-Some.at c.index-slots-at.result
    (requests_chain c.args.completed.now.id c.args.slots.now c.requires.linked) c.in-Some.is c.loop-next.invariant.next c.loop-next.invariant.flagged

pub loop-next-smaller : goal.loop-next-smaller
loop-next-smaller c = rw c.in-Some.is (let w = walked c in omega (arith, w.nearer))

pub loop-next-preserved : goal.loop-next-preserved
loop-next-preserved c = let w = walked c in record { next = w.next; flagged = rw c.flag.ensures w.done }

pub returns : goal.returns
returns c = c.loop-next.invariant.flagged ∙ ap (λ r. mapped_from (reach r) (flagged_slot c.args.completed.now) c.args.slots.now) c.in_default.is

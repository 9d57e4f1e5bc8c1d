use Rattle.std.proofs.Common.{◌≡◌, ◌&&◌, Bool, true, false, refl, get_or, take, sym, ap, subst, ◌∙◌, arith}
use Rattle.std.specs.List.{list_any}
use Rattle.curp_line.specs.Slots.{completes, is_completed, is_of_request}
use Rattle.curp_line.specs.declared.slot.MarkSlot.{MarkSlot}
use Rattle.curp_line.proofs.Kept.{other_completes_none}
use Rattle.curp_line.proofs.Links.{requests_chain}
use Rattle.curp_line.proofs.Places.{HasPassed, last_is_place, look_begins, place_passes, place_within, reach, walk_finds, walk_passes}
use Rattle.curp_line.proofs.slot.has_completed.Goals as goal

both : (a b : Bool) → a ≡ true → b ≡ true → (a && b) ≡ true
both a b e f = rw (e, f) refl

not_both : (a b : Bool) → a ≡ false → (a && b) ≡ false
not_both a b e = rw e refl

pub loop-next-init : goal.loop-next-init
loop-next-init c = record {
  next = rw c.requires.latest (last_is_place (is_of_request c.args.id.now) c.args.slots.now);
  left = look_begins (is_of_request c.args.id.now) (λ (s : MarkSlot). s.earlier_of_request) (completes c.args.id.now) (other_completes_none c.args.id.now) c.args.slots.now c.args.latest c.requires.latest;
}

pub bounds-slots-at : goal.bounds-slots-at
bounds-slots-at c = place_within (is_of_request c.args.id.now) c.args.slots.now c.loop-next.next c.in-Some.at c.in-Some.is c.loop-next.invariant.next

pub returns-then-is_completed : goal.returns-then-is_completed
returns-then-is_completed c =
    let its = place_passes (is_of_request c.args.id.now) c.args.slots.now c.loop-next.next c.in-Some.at c.index-slots-at.result c.in-Some.is c.loop-next.invariant.next in
    let completed : is_completed (get_or c.args.slots.now c.in-Some.at c.index-slots-at.result) ≡ true = rw (← c.index-slots-at.is) (sym c.is_completed.ensures ∙ c.if-is_completed.true) in
    let here : completes c.args.id.now (get_or c.args.slots.now c.in-Some.at c.index-slots-at.result) ≡ true = both _ _ completed its in
    let found = walk_finds (is_of_request c.args.id.now) (λ (s : MarkSlot). s.earlier_of_request) (completes c.args.id.now) c.args.slots.now c.loop-next.next c.in-Some.at c.index-slots-at.result c.in-Some.is c.loop-next.invariant.next here in
    sym found

walked : (c : goal.After-next-in-Some-1) → HasPassed (is_of_request c.args.id.now) (λ (s : MarkSlot). s.earlier_of_request) (completes c.args.id.now) c.args.slots.now c.in-Some.at c.index-slots-at.result
walked c =
    let not_here : completes c.args.id.now (get_or c.args.slots.now c.in-Some.at c.index-slots-at.result) ≡ false =
    rw (← c.index-slots-at.is) (not_both _ _ (sym c.is_completed.ensures ∙ c.if-is_completed.false)) in
    subst (HasPassed (is_of_request c.args.id.now) (λ (s : MarkSlot). s.earlier_of_request) (completes c.args.id.now) c.args.slots.now c.in-Some.at) (sym c.index-slots-at.is)
    (walk_passes (is_of_request c.args.id.now) (λ (s : MarkSlot). s.earlier_of_request) (completes c.args.id.now) (other_completes_none c.args.id.now)
    c.args.slots.now c.loop-next.next c.in-Some.at c.index-slots-at.result
    (requests_chain c.args.id.now c.args.slots.now c.requires.linked) c.in-Some.is c.loop-next.invariant.next c.loop-next.invariant.left not_here)

pub loop-next-smaller : goal.loop-next-smaller
loop-next-smaller c = rw c.in-Some.is (let w = walked c in omega (arith, w.nearer))

pub loop-next-preserved : goal.loop-next-preserved
loop-next-preserved c = let w = walked c in record { next = w.next; left = w.left }

-- no slot is left
pub returns : goal.returns
returns c =
    sym (c.loop-next.invariant.left
    ∙ ap (λ r. list_any (completes c.args.id.now) (take (reach r) c.args.slots.now)) c.in_default.is)

use Rattle.std.proofs.Common.{◌∙◌, ap, arith, set, sym}
use Rattle.std.proofs.lemmas.List.Edits.{map_over_more}
use Rattle.curp_ruled.specs.Posting.{slot_ended}
use Rattle.curp_ruled.specs.declared.posts.Slot.{Slot}
use Rattle.curp_ruled.proofs.posts.end_each.Goals as goal

pub loop-slot-preserved : goal.loop-slot-preserved
loop-slot-preserved g c =
    rw c.end.ensures
    (ap (λ (s : Slot). set c.loop-slot.slots c.loop-slot.slot-index (slot_ended s)) (sym c.slot-item.is)
    ∙ map_over_more slot_ended c.args.slots.now c.loop-slot.slots c.loop-slot.slot-index c.slot-item.result (omega arith) c.loop-slot.invariant c.slot-item.is)

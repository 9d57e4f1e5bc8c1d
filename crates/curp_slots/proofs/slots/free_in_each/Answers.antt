use Rattle.std.proofs.Common.{arith}
use Rattle.std.proofs.lemmas.List.Edits.{map_over_more}
use Rattle.curp_slots.specs.Slots.{slots_left}
use Rattle.curp_slots.proofs.slots.free_in_each.Goals as goal

pub loop-at-preserved : goal.loop-at-preserved
loop-at-preserved c =
    rw c.free.ensures
    (map_over_more (slots_left c.args.listed.now) c.args.sets.now.items c.loop-at.sets.items c.loop-at.at c.index_mut.result.now (omega (arith, c.loop-at-test.true, c.len-at-end.ensures)) c.loop-at.invariant c.index_mut.ensures.value)

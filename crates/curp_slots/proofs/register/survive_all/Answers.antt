use Rattle.std.proofs.Common.{arith}
use Rattle.std.proofs.lemmas.List.Edits.{map_over_more}
use Rattle.curp_model.specs.Witness.{survives}
use Rattle.curp_slots.proofs.register.survive_all.Goals as goal

pub loop-at-preserved : goal.loop-at-preserved
loop-at-preserved c = record {
  so_far =
      rw c.survive.ensures
      (map_over_more survives c.args.kept.now.items c.loop-at.kept.items c.loop-at.at c.index_mut.result.now (omega (arith, c.loop-at-test.true, c.len-at-end.ensures)) c.loop-at.invariant.so_far c.index_mut.ensures.value);
  room = c.loop-at.invariant.room;
}

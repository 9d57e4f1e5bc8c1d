use Rattle.std.proofs.Common.{◌∙◌, nat_eq, arith}
use Rattle.std.specs.HashMap.{get}
use Rattle.curp_tail.proofs.Kept.{noted_more}
use Rattle.curp_tail.proofs.tail.note_all.Goals as goal

pub loop-at-preserved : goal.loop-at-preserved
loop-at-preserved c = record {
  so_far =
      let told = rw c.as_slice.ensures at c.note.ensures.lasts in
      λ hash. told hash ∙ noted_more c.args.hashes.now c.loop-at.at hash c.args.index (get nat_eq c.loop-at.lasts hash) (get nat_eq c.args.lasts.now hash) 0 (omega (arith, c.count-at-end.ensures.value)) (c.loop-at.invariant.so_far hash);
  room = omega arith;
}

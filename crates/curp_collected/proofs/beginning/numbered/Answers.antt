use Rattle.std.proofs.Common.{◌∙◌, arith}
use Rattle.std.proofs.lemmas.List.{length_push}
use Rattle.curp_collected.proofs.Begun.{numbered_next}
use Rattle.curp_collected.proofs.beginning.numbered.Goals as goal

pub loop-node-preserved : goal.loop-node-preserved
loop-node-preserved g c =
    let given = c.loop-node.yielded in
    let so_far = c.loop-node.invariant in
    record {
      begun = c.in_ok-push.ensures.items ∙ numbered_next c.args.kind c.loop-node.number given c.in-Some.node c.loop-node.begun.items so_far.begun so_far.count;
      count = omega (arith, length_push given c.in-Some.node, so_far.count);
    }

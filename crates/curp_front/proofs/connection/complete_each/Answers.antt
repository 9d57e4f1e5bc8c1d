use Rattle.std.proofs.Common.{arith}
use Rattle.std.proofs.lemmas.List.Edits.{map_over_more}
use Rattle.curp_front.specs.Conversation.{completed_due}
use Rattle.curp_front.proofs.connection.complete_each.Goals as goal

pub loop-at-preserved : goal.loop-at-preserved
loop-at-preserved c =
    rw c.complete.ensures
    (map_over_more (completed_due c.args.id.now c.args.answer.now) c.args.due.now.items c.loop-at.due.items c.loop-at.at c.index_mut.result.now (omega (arith, c.loop-at-test.true, c.len-at-end.ensures)) c.loop-at.invariant c.index_mut.ensures.value)

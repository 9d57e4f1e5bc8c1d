use Rattle.std.proofs.Common.{arith}
use Rattle.curp_journal.proofs.Names.{named_of-take}
use Rattle.curp_seat.proofs.naming.named_of.Goals as goal

pub loop-message-preserved : goal.loop-message-preserved
loop-message-preserved c =
    let i = c.loop-message.invariant in
    let t = named_of-take c.args.from c.args.step c.args.stamp c.args.messages.now c.loop-message.message-index c.message-item.result c.message-item.is c.loop-message-test.true in
    record {
      named_so_far = cc (t, i.named_so_far, i.place_is, c.in_ok-copy.ensures, c.in_ok-push.ensures.items);
      place_is = omega arith;
    }
